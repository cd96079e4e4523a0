-- C_InitToken: the check or the pending call, and its result.
use Rattle.std.proofs.Common.{◌≡◌, ℕ, Bool, true, false, cond, not, List, refl, ap}
use Rattle.std.specs.Prelude.{◌&&◌, ◌||◌, ◌==◌, nat_lt}
use Rattle.std.specs.Option.{unwrap_or}
use Rattle.std.proofs.lemmas.Bool.{not-false}
use Rattle.ck_types.specs.declared.rv.Rv.TheVariants.{FunctionFailed, PinIncorrect, SessionExists}
use Rattle.ck_types.specs.declared.user_type.UserType.TheVariants.{So, User}
use Rattle.ck_calls.specs.declared.function.Function.TheVariants.{InitToken}
use Rattle.ck_calls.specs.declared.reply.Reply.TheVariants.{Code}
use Rattle.precede.specs.declared.condition.Condition.TheVariants.{SessionOpen, PinLength, PinLocked}
use Rattle.pin_record.specs.Verifiers.{verifier_for, new_rounds}
use Rattle.pin_record.specs.Records.{is_initialized, is_locked, initialized_record, tries_limit, tries_of, with_tries}
use Rattle.lists.proofs.ListLemmas.{length-map}
use Rattle.model_views.specs.TaskResults.{TaskResult, Made, Right, Wrong}
use Rattle.model_views.specs.Views.{InitsToken, ResetsToken, mask_session}
use Rattle.model_views.specs.Answering.{Reveal, mask_reveal, answered, asks, asks_checked}
use Rattle.model_views.proofs.Masks.{with_tries-masked}
use Rattle.model_views.proofs.Blind.{blind-if, blind-asks, blind-asks_checked, fair-asks_checked}
use Rattle.model_views.proofs.Checks.{Condition, View, mask, shown, mask-twice, IsProper, IsFair, NoRow, blind-refusal, fair, proper-given}
use Rattle.model_session_answers.specs.Pins.{is_pin_length, verifier_or, others, is_charged}
use Rattle.model_session_answers.specs.InitToken.{is_in_use, init_token_row, inits, init_token, may_init, init_token_result, reset_token_result}
use Rattle.model_session_answers.proofs.Over.{IsOver, over-if, over-refused, over-stores, over-resets, blind-stores, blind-resets}
use Rattle.model_session_answers.proofs.Pins.{row-initialized, charged-mask}

use-mask : (v : View) (r : Reveal) → is_in_use (mask v) (mask_reveal r) ≡ is_in_use v r
use-mask v r = ap (λ n. nat_lt 0 n || unwrap_or r.others_have_sessions false) (length-map mask_session v.sessions.sessions)

module _ (slot : ℕ) (pin label : List ℕ) where
  row-mask : (v : View) (r : Reveal) (row : Condition)
      → init_token_row (mask v) (mask_reveal r) slot pin label row ≡ init_token_row v r slot pin label row
  row-mask v r SessionOpen = use-mask v r
  row-mask v r PinLength = ap (λ b. not b && not (is_pin_length pin)) (row-initialized v.token_record)
  row-mask v r PinLocked = ap (λ b. b && is_locked v.token_record So) (row-initialized v.token_record)
  row-mask v r _ = refl

  blind-inits : (random : List ℕ) (v : View) → shown (inits (mask v) pin label random) ≡ shown (inits v pin label random)
  blind-inits random v =
      blind-if (is_initialized (mask v).token_record) (is_initialized v.token_record) _ _ _ _ (row-initialized v.token_record)
      (blind-asks_checked v InitToken 0 (ResetsToken label (verifier_or (mask v).token_record So) pin)
      (ResetsToken label (verifier_or v.token_record So) pin) So refl)
      (blind-asks v InitToken 0 (InitsToken label pin random) (InitsToken label pin random) refl)

  fair-inits : (random : List ℕ) (v : View) (r : Reveal) → NoRow InitToken (init_token_row v r slot pin label)
      → IsFair false v (inits v pin label random)
  fair-inits random v r none = step (is_initialized v.token_record) refl none.1.1.1.1.1.0 where
    step : (b : Bool) → is_initialized v.token_record ≡ b → (b && is_locked v.token_record So) ≡ false
        → IsFair false v (cond b (asks_checked v InitToken 0 (ResetsToken label (verifier_or v.token_record So) pin) So)
        (asks v InitToken 0 (InitsToken label pin random)))
    step true set unlocked = fair-asks_checked v InitToken 0 (ResetsToken label (verifier_or v.token_record So) pin) So refl set
        (not-false (nat_lt (tries_of v.token_record So) tries_limit) unlocked) refl (λ k. let z : So ≡ User = k in cc)
    step false unset unlocked = fair v {a = asks v InitToken 0 (InitsToken label pin random)} refl refl refl refl refl

pub proper-init_token : (slot : ℕ) (pin label random : List ℕ) → IsProper (λ v r. init_token v slot pin label random r) false
proper-init_token slot pin label random =
    proper-given InitToken (λ v r. init_token_row v r slot pin label) (λ v. inits v pin label random) (row-mask slot pin label)
    (blind-inits slot pin label random) (fair-inits slot pin label random)

-- ---- the results

may-mask : (v : View) → may_init (mask v) ≡ may_init v
may-mask v = ap (λ b. not b && (tries_of v.token_record So == 0)) (row-initialized v.token_record)

pub blind-init_token : (v : View) (label pin salt : List ℕ) (outcome : TaskResult) (r : Reveal)
    → shown (init_token_result (mask v) label pin salt outcome (mask_reveal r)) ≡ shown (init_token_result v label pin salt outcome r)
blind-init_token v label pin salt Made r =
    let new = initialized_record label (verifier_for pin salt new_rounds) 0 in
    blind-if (may_init (mask v)) (may_init v) _ _ _ _ (may-mask v)
    (blind-if (is_in_use (mask v) (mask_reveal r)) (is_in_use v r) _ _ _ _ (use-mask v r)
    (blind-refusal v SessionExists) (blind-resets new new (mask v) v refl (mask-twice v)))
    (blind-refusal v FunctionFailed)
blind-init_token v label pin salt _ r = blind-refusal v FunctionFailed

pub blind-reset_token : (v : View) (label : List ℕ) (outcome : TaskResult) (r : Reveal)
    → shown (reset_token_result (mask v) label outcome (mask_reveal r)) ≡ shown (reset_token_result v label outcome r)
blind-reset_token v label Right r =
    let n = others r in
    let old = (mask v).token_record in
    let new = v.token_record in
    blind-if (is_charged old So n) (is_charged new So n) _ _ _ _ (charged-mask new So n)
    (blind-if (is_in_use (mask v) (mask_reveal r)) (is_in_use v r) _ _ _ _ (use-mask v r)
    (blind-stores (Code SessionExists) (with_tries old So n) (with_tries new So n) (mask v) v (with_tries-masked new So n) (mask-twice v))
    (blind-resets (initialized_record label (verifier_or old So) n) (initialized_record label (verifier_or new So) n)
    (mask v) v refl (mask-twice v)))
    (blind-refusal v FunctionFailed)
blind-reset_token v label Wrong r = blind-refusal v PinIncorrect
blind-reset_token v label _ r = blind-refusal v FunctionFailed

pub over-init_token : (v : View) (label pin salt : List ℕ) (outcome : TaskResult) (r : Reveal)
    → IsOver v (init_token_result (answered v) label pin salt outcome r)
over-init_token v label pin salt Made r =
    over-if v (may_init (answered v))
    (over-if v (is_in_use (answered v) r) (over-refused v SessionExists refl)
    (over-resets v (initialized_record label (verifier_for pin salt new_rounds) 0)))
    (over-refused v FunctionFailed refl)
over-init_token v label pin salt _ r = over-refused v FunctionFailed refl

pub over-reset_token : (v : View) (label : List ℕ) (outcome : TaskResult) (r : Reveal)
    → IsOver v (reset_token_result (answered v) label outcome r)
over-reset_token v label Right r =
    over-if v (is_charged v.token_record So (others r))
    (over-if v (is_in_use (answered v) r)
    (over-stores v (answered v) (Code SessionExists) (with_tries v.token_record So (others r)) refl refl)
    (over-resets v (initialized_record label (verifier_or v.token_record So) (others r))))
    (over-refused v FunctionFailed refl)
over-reset_token v label Wrong r = over-refused v PinIncorrect refl
over-reset_token v label _ r = over-refused v FunctionFailed refl
