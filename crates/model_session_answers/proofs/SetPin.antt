-- C_SetPIN: the check of the old PIN, and its end.
use Rattle.std.proofs.Common.{◌≡◌, ℕ, false, not, List, refl, ap}
use Rattle.std.specs.Prelude.{nat_lt}
use Rattle.std.proofs.lemmas.Bool.{not-false}
use Rattle.ck_types.specs.declared.rv.Rv.TheVariants.{Ok, FunctionFailed, PinIncorrect}
use Rattle.ck_types.specs.declared.user_type.UserType.{UserType}
use Rattle.ck_calls.specs.declared.function.Function.TheVariants.{SetPin}
use Rattle.ck_calls.specs.declared.reply.Reply.TheVariants.{Code}
use Rattle.precede.specs.declared.condition.Condition.TheVariants.{NoSession, SessionReadOnly, PinNotSet, PinLocked}
use Rattle.pin_record.specs.Verifiers.{verifier_for, new_rounds}
use Rattle.pin_record.specs.Records.{is_initialized, tries_limit, tries_of, with_pin, with_tries}
use Rattle.model_views.specs.TaskResults.{TaskResult, Right, Wrong}
use Rattle.model_views.specs.Views.{ChangesPin}
use Rattle.model_views.specs.Answering.{Reveal, mask_reveal, answered, asks_checked}
use Rattle.model_views.proofs.Masks.{with_pin-masked, with_tries-masked}
use Rattle.model_views.proofs.Blind.{blind-if, blind-asks_checked, fair-asks_checked}
use Rattle.model_views.proofs.Checks.{Condition, View, mask, shown, mask-twice, IsProper, blind-refusal, proper-given, has-session, row-session, row-writes}
use Rattle.model_session_answers.specs.Pins.{verifier_or, others, is_charged}
use Rattle.model_session_answers.specs.SetPin.{owner, set_pin_row, sets_pin, set_pin, set_pin_result}
use Rattle.model_session_answers.proofs.Over.{IsOver, over-if, over-refused, over-stores, blind-stores}
use Rattle.model_session_answers.proofs.Pins.{row-set, row-locked, row-initialized, charged-mask}

row-mask : (s : ℕ) (who : UserType) (new_pin : List ℕ) (v : View) (r : Reveal) (row : Condition)
    → set_pin_row (mask v) s who new_pin row ≡ set_pin_row v s who new_pin row
row-mask s who new_pin v r NoSession = row-session v s
row-mask s who new_pin v r SessionReadOnly = ap not (row-writes v s)
row-mask s who new_pin v r PinNotSet = ap not (row-set v.token_record who)
row-mask s who new_pin v r PinLocked = row-locked v.token_record who
row-mask s who new_pin v r _ = refl

proper-sets_pin : (s : ℕ) (who : UserType) (pin new_pin random : List ℕ) → IsProper (λ v r. sets_pin v s who pin new_pin random) false
proper-sets_pin s who pin new_pin random =
    proper-given SetPin (λ v r. set_pin_row v s who new_pin)
    (λ v. asks_checked v SetPin s (ChangesPin who (verifier_or v.token_record who) pin new_pin random) who) (row-mask s who new_pin)
    (λ v. blind-asks_checked v SetPin s (ChangesPin who (verifier_or (mask v).token_record who) pin new_pin random)
    (ChangesPin who (verifier_or v.token_record who) pin new_pin random) who refl)
    (λ v r none. fair-asks_checked v SetPin s (ChangesPin who (verifier_or v.token_record who) pin new_pin random) who refl
    (not-false _ none.1.1.1.0) (not-false (nat_lt (tries_of v.token_record who) tries_limit) none.1.1.1.1.1.0) refl
    (λ k. has-session v s none.1.0))

-- who is logged in is seen
pub proper-set_pin : (s : ℕ) (pin new_pin random : List ℕ) → IsProper (λ v r. set_pin v s pin new_pin random) false
proper-set_pin s pin new_pin random = record {
  blind = λ v r. (proper-sets_pin s (owner v.sessions.login) pin new_pin random).blind v r;
  fair = λ v r. (proper-sets_pin s (owner v.sessions.login) pin new_pin random).fair v r;
}

pub blind-set_pin : (v : View) (who : UserType) (new_pin salt : List ℕ) (outcome : TaskResult) (r : Reveal)
    → shown (set_pin_result (mask v) who new_pin salt outcome (mask_reveal r)) ≡ shown (set_pin_result v who new_pin salt outcome r)
blind-set_pin v who new_pin salt Right r =
    let n = others r in
    let made = verifier_for new_pin salt new_rounds in
    blind-if (is_charged (mask v).token_record who n) (is_charged v.token_record who n) _ _ _ _ (charged-mask v.token_record who n)
    (blind-if (is_initialized (mask v).token_record) (is_initialized v.token_record) _ _ _ _ (row-initialized v.token_record)
    (blind-stores (Code Ok) (with_pin (mask v).token_record who made n) (with_pin v.token_record who made n) (mask v) v
    (with_pin-masked v.token_record who made n) (mask-twice v))
    (blind-stores (Code FunctionFailed) (with_tries (mask v).token_record who n) (with_tries v.token_record who n) (mask v) v
    (with_tries-masked v.token_record who n) (mask-twice v)))
    (blind-refusal v FunctionFailed)
blind-set_pin v who new_pin salt Wrong r = blind-refusal v PinIncorrect
blind-set_pin v who new_pin salt _ r = blind-refusal v FunctionFailed

pub over-set_pin : (v : View) (who : UserType) (new_pin salt : List ℕ) (outcome : TaskResult) (r : Reveal)
    → IsOver v (set_pin_result (answered v) who new_pin salt outcome r)
over-set_pin v who new_pin salt Right r =
    let n = others r in
    over-if v (is_charged v.token_record who n)
    (over-if v (is_initialized v.token_record)
    (over-stores v (answered v) (Code Ok) (with_pin v.token_record who (verifier_for new_pin salt new_rounds) n) refl refl)
    (over-stores v (answered v) (Code FunctionFailed) (with_tries v.token_record who n) refl refl))
    (over-refused v FunctionFailed refl)
over-set_pin v who new_pin salt Wrong r = over-refused v PinIncorrect refl
over-set_pin v who new_pin salt _ r = over-refused v FunctionFailed refl
