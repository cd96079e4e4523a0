-- C_SetPIN (PKCS #11 v3.1, 5.5): a new PIN in the place of the old one.
use Rattle.std.specs.Prelude.{ℕ, Bool, false, not, List, is_none, if◌then◌else◌, Option}
use Rattle.ck_types.specs.declared.rv.Rv.TheVariants.{FunctionFailed, PinIncorrect}
use Rattle.ck_types.specs.declared.user_type.UserType.TheVariants.{So, User}
use Rattle.ck_calls.specs.declared.function.Function.TheVariants.{SetPin}
use Rattle.precede.specs.declared.condition.Condition.TheVariants.{NoSession, SessionReadOnly, PinNotSet, PinLength, PinLocked}
use Rattle.pin_record.specs.Verifiers.{PinVerifier, verifier_for, new_rounds}
use Rattle.pin_record.specs.Records.{is_initialized, is_locked, with_pin, with_tries}
use Rattle.model_views.specs.TaskResults.{TaskResult, Right, Wrong}
use Rattle.model_views.specs.Views.{ChangesPin}
use Rattle.model_views.specs.Answering.{Reveal, asks_checked}
use Rattle.model_views.specs.Calls.{Ok, Code, UserType, Condition, View, Answer, refuses, session_of, writes, checked}
use Rattle.model_session_answers.specs.Pins.{is_so, is_pin_length, is_set, verifier_or, others, is_charged, stores}

-- the SO changes the SO's PIN, and anybody else the user's
abbrev pub owner : Option UserType → UserType
owner login = if is_so login then So else User

abbrev pub set_pin_row : View → ℕ → UserType → List ℕ → Condition → Bool
set_pin_row v s who new_pin NoSession = is_none (session_of v s)
set_pin_row v s who new_pin SessionReadOnly = not (writes (session_of v s))
set_pin_row v s who new_pin PinNotSet = not (is_set v.token_record who)
set_pin_row v s who new_pin PinLength = not (is_pin_length new_pin)
set_pin_row v s who new_pin PinLocked = is_locked v.token_record who
set_pin_row v s who new_pin _ = false

abbrev pub sets_pin : View → ℕ → UserType → List ℕ → List ℕ → List ℕ → Answer
sets_pin v s who pin new_pin random =
    checked SetPin (set_pin_row v s who new_pin) v
    (asks_checked v SetPin s (ChangesPin who (verifier_or v.token_record who) pin new_pin random) who)

abbrev pub set_pin : View → ℕ → List ℕ → List ℕ → List ℕ → Answer
set_pin v s pin new_pin random = sets_pin v s (owner v.sessions.login) pin new_pin random

-- where the old PIN was right
abbrev pub pin_changed : View → UserType → PinVerifier → Reveal → Answer
pin_changed v who made r =
    if is_charged v.token_record who (others r) then (
    if is_initialized v.token_record then stores (Code Ok) (with_pin v.token_record who made (others r)) v
    else stores (Code FunctionFailed) (with_tries v.token_record who (others r)) v)
    else refuses v FunctionFailed

abbrev pub set_pin_result : View → UserType → List ℕ → List ℕ → TaskResult → Reveal → Answer
set_pin_result v who new_pin salt Right r = pin_changed v who (verifier_for new_pin salt new_rounds) r
set_pin_result v who new_pin salt Wrong r = refuses v PinIncorrect
set_pin_result v who new_pin salt _ r = refuses v FunctionFailed
