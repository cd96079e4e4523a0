-- C_InitToken (PKCS #11 v3.1, 5.5): the token is initialised, for the first time or again.
use Rattle.std.specs.Prelude.{ℕ, Bool, false, ◌&&◌, ◌||◌, ◌==◌, not, List, length, if◌then◌else◌}
use Rattle.std.specs.Option.{unwrap_or}
use Rattle.ck_types.specs.declared.rv.Rv.TheVariants.{FunctionFailed, PinIncorrect, SessionExists}
use Rattle.ck_types.specs.declared.user_type.UserType.TheVariants.{So}
use Rattle.ck_calls.specs.declared.function.Function.TheVariants.{InitToken}
use Rattle.precede.specs.declared.condition.Condition.TheVariants.{NoSlot, LabelLength, SessionOpen, PinLength, PinLocked}
use Rattle.pin_record.specs.Verifiers.{PinVerifier, verifier_for, new_rounds}
use Rattle.pin_record.specs.Records.{is_initialized, is_locked, initialized_record, tries_of, with_tries}
use Rattle.model_views.specs.TaskResults.{TaskResult, Made, Right, Wrong}
use Rattle.model_views.specs.Views.{InitsToken, ResetsToken}
use Rattle.model_views.specs.Answering.{Reveal, asks_checked, has_session}
use Rattle.model_views.specs.Calls.{Code, Condition, View, Answer, refuses, asks, checked}
use Rattle.model_session_answers.specs.OpenSession.{is_slot}
use Rattle.model_session_answers.specs.Pins.{is_pin_length, verifier_or, others, is_charged, stores, resets}

-- the application has a session, or another one, which is revealed
abbrev pub is_in_use : View → Reveal → Bool
is_in_use v r = has_session v || unwrap_or r.others_have_sessions false

abbrev pub init_token_row : View → Reveal → ℕ → List ℕ → List ℕ → Condition → Bool
init_token_row v r slot pin label NoSlot = not (is_slot slot)
init_token_row v r slot pin label LabelLength = not (length label == 32)
init_token_row v r slot pin label SessionOpen = is_in_use v r
init_token_row v r slot pin label PinLength = not (is_initialized v.token_record) && not (is_pin_length pin)
init_token_row v r slot pin label PinLocked = is_initialized v.token_record && is_locked v.token_record So
init_token_row v r slot pin label _ = false

-- the SO's first PIN is set, or the one that is set is checked
abbrev pub inits : View → List ℕ → List ℕ → List ℕ → Answer
inits v pin label random =
    if is_initialized v.token_record then asks_checked v InitToken 0 (ResetsToken label (verifier_or v.token_record So) pin) So
    else asks v InitToken 0 (InitsToken label pin random)

abbrev pub init_token : View → ℕ → List ℕ → List ℕ → List ℕ → Reveal → Answer
init_token v slot pin label random r = checked InitToken (init_token_row v r slot pin label) v (inits v pin label random)

-- ---- its result: whether there is a session is tested again

-- it began where the token was not initialised; a PIN that isn't set has no tries
abbrev pub may_init : View → Bool
may_init v = not (is_initialized v.token_record) && (tries_of v.token_record So == 0)

abbrev pub inited : View → List ℕ → PinVerifier → Reveal → Answer
inited v label made r = if may_init v then
    (if is_in_use v r then refuses v SessionExists else resets (initialized_record label made 0) v) else refuses v FunctionFailed

abbrev pub init_token_result : View → List ℕ → List ℕ → List ℕ → TaskResult → Reveal → Answer
init_token_result v label pin salt Made r = inited v label (verifier_for pin salt new_rounds) r
init_token_result v label pin salt _ r = refuses v FunctionFailed

-- it began with a check of the SO's PIN, which was right; the PIN stays
abbrev pub reset : View → List ℕ → Reveal → Answer
reset v label r =
    if is_charged v.token_record So (others r) then (
    if is_in_use v r then stores (Code SessionExists) (with_tries v.token_record So (others r)) v
    else resets (initialized_record label (verifier_or v.token_record So) (others r)) v)
    else refuses v FunctionFailed

abbrev pub reset_token_result : View → List ℕ → TaskResult → Reveal → Answer
reset_token_result v label Right r = reset v label r
reset_token_result v label Wrong r = refuses v PinIncorrect
reset_token_result v label _ r = refuses v FunctionFailed
