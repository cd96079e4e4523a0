-- C_InitPIN: the pending call, and its result.
use Rattle.std.proofs.Common.{◌≡◌, ℕ, false, List, refl, ap}
use Rattle.std.specs.Prelude.{◌&&◌, nat_le}
use Rattle.ck_types.specs.declared.rv.Rv.TheVariants.{Ok, FunctionFailed}
use Rattle.ck_types.specs.declared.user_type.UserType.TheVariants.{User}
use Rattle.ck_calls.specs.declared.function.Function.TheVariants.{InitPin}
use Rattle.ck_calls.specs.declared.reply.Reply.TheVariants.{Code}
use Rattle.precede.specs.declared.condition.Condition.TheVariants.{NoSession}
use Rattle.pin_record.specs.Verifiers.{verifier_for, new_rounds}
use Rattle.pin_record.specs.Records.{tries_limit, with_pin}
use Rattle.model_views.specs.TaskResults.{TaskResult, Made}
use Rattle.model_views.specs.Views.{MakesPin}
use Rattle.model_views.specs.Answering.{Reveal, mask_reveal, answered, asks}
use Rattle.model_views.proofs.Masks.{with_pin-masked}
use Rattle.model_views.proofs.Blind.{blind-if, blind-asks}
use Rattle.model_views.proofs.Checks.{Condition, View, mask, shown, mask-twice, IsProper, blind-refusal, fair, proper-checked, row-session}
use Rattle.model_session_answers.specs.Pins.{others}
use Rattle.model_session_answers.specs.InitPin.{init_pin_row, init_pin, may_set_pin, init_pin_result}
use Rattle.model_session_answers.proofs.Over.{IsOver, over-if, over-refused, over-stores, blind-stores}
use Rattle.model_session_answers.proofs.Pins.{row-initialized}

row-mask : (s : ℕ) (pin : List ℕ) (v : View) (row : Condition) → init_pin_row (mask v) s pin row ≡ init_pin_row v s pin row
row-mask s pin v NoSession = row-session v s
row-mask s pin v _ = refl

pub proper-init_pin : (s : ℕ) (pin random : List ℕ) → IsProper (λ v r. init_pin v s pin random) false
proper-init_pin s pin random =
    proper-checked InitPin (λ v. init_pin_row v s pin) (λ v. asks v InitPin s (MakesPin pin random)) (row-mask s pin)
    (λ v. blind-asks v InitPin s (MakesPin pin random) (MakesPin pin random) refl)
    (λ v. fair v {a = asks v InitPin s (MakesPin pin random)} refl refl refl refl refl)

may-mask : (v : View) (r : Reveal) → may_set_pin (mask v) (mask_reveal r) ≡ may_set_pin v r
may-mask v r = ap (λ b. b && nat_le (others r) tries_limit) (row-initialized v.token_record)

pub blind-init_pin : (v : View) (pin salt : List ℕ) (outcome : TaskResult) (r : Reveal)
    → shown (init_pin_result (mask v) pin salt outcome (mask_reveal r)) ≡ shown (init_pin_result v pin salt outcome r)
blind-init_pin v pin salt Made r =
    let made = verifier_for pin salt new_rounds in
    blind-if (may_set_pin (mask v) (mask_reveal r)) (may_set_pin v r) _ _ _ _ (may-mask v r)
    (blind-stores (Code Ok) (with_pin (mask v).token_record User made (others r)) (with_pin v.token_record User made (others r))
    (mask v) v (with_pin-masked v.token_record User made (others r)) (mask-twice v))
    (blind-refusal v FunctionFailed)
blind-init_pin v pin salt _ r = blind-refusal v FunctionFailed

pub over-init_pin : (v : View) (pin salt : List ℕ) (outcome : TaskResult) (r : Reveal)
    → IsOver v (init_pin_result (answered v) pin salt outcome r)
over-init_pin v pin salt Made r =
    over-if v (may_set_pin (answered v) r)
    (over-stores v (answered v) (Code Ok)
    (with_pin v.token_record User (verifier_for pin salt new_rounds) (others r)) refl refl) (over-refused v FunctionFailed refl)
over-init_pin v pin salt _ r = over-refused v FunctionFailed refl
