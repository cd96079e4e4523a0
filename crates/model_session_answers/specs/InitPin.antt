-- C_InitPIN (PKCS #11 v3.1, 5.5): the SO sets the user's PIN.
use Rattle.std.specs.Prelude.{ℕ, Bool, false, ◌&&◌, not, nat_le, List, is_none, if◌then◌else◌}
use Rattle.ck_types.specs.declared.rv.Rv.TheVariants.{FunctionFailed}
use Rattle.ck_types.specs.declared.user_type.UserType.TheVariants.{User}
use Rattle.ck_calls.specs.declared.function.Function.TheVariants.{InitPin}
use Rattle.precede.specs.declared.condition.Condition.TheVariants.{NoSession, NotSo, PinLength}
use Rattle.pin_record.specs.Verifiers.{PinVerifier, verifier_for, new_rounds}
use Rattle.pin_record.specs.Records.{is_initialized, tries_limit, with_pin}
use Rattle.model_views.specs.TaskResults.{TaskResult, Made}
use Rattle.model_views.specs.Views.{MakesPin}
use Rattle.model_views.specs.Answering.{Reveal}
use Rattle.model_views.specs.Calls.{Ok, Code, Condition, View, Answer, refuses, asks, session_of, checked}
use Rattle.model_session_answers.specs.Pins.{is_so, is_pin_length, others, stores}

abbrev pub init_pin_row : View → ℕ → List ℕ → Condition → Bool
init_pin_row v s pin NoSession = is_none (session_of v s)
init_pin_row v s pin NotSo = not (is_so v.sessions.login)
init_pin_row v s pin PinLength = not (is_pin_length pin)
init_pin_row v s pin _ = false

abbrev pub init_pin : View → ℕ → List ℕ → List ℕ → Answer
init_pin v s pin random = checked InitPin (init_pin_row v s pin) v (asks v InitPin s (MakesPin pin random))

-- its tries are the checks of the user's PIN that are in progress, ten at most
abbrev pub may_set_pin : View → Reveal → Bool
may_set_pin v r = is_initialized v.token_record && nat_le (others r) tries_limit

abbrev pub pin_made : View → PinVerifier → Reveal → Answer
pin_made v made r = if may_set_pin v r then stores (Code Ok) (with_pin v.token_record User made (others r)) v else refuses v FunctionFailed

abbrev pub init_pin_result : View → List ℕ → List ℕ → TaskResult → Reveal → Answer
init_pin_result v pin salt Made r = pin_made v (verifier_for pin salt new_rounds) r
init_pin_result v pin salt _ r = refuses v FunctionFailed
