-- What each call returns to an application, from its view alone: one definition for each call.
use Rattle.std.specs.Prelude.{◌&&◌, not, ℕ, Bool, true, false, List, if◌then◌else◌, Option, Some, None}
use Rattle.ck_calls.specs.declared.call.Call.{Call}
use Rattle.ck_calls.specs.declared.call.Call.TheVariants as call
use Rattle.ck_calls.specs.declared.function.Function.{Function}
use Rattle.ck_calls.specs.declared.function.Function.TheVariants as function
use Rattle.aes_modes.specs.declared.direction.Direction.TheVariants.{Encrypt, Decrypt}
use Rattle.precede.specs.declared.condition.Condition.TheVariants.{Busy}
use Rattle.model_views.specs.TaskResults.{TaskResult}
use Rattle.ops.specs.declared.place.Kind.TheVariants as kind
use Rattle.ops.specs.declared.place.MacPlace.TheVariants as mac_place
use Rattle.model_views.specs.Views.{View, Question, Task, Ciphers, Takes, Signs, Verifies, WrapsKey, UnwrapsKey, ChecksPin, MakesPin, ChangesPin, InitsToken, ResetsToken}
use Rattle.model_views.specs.Answering.{Answer, Reveal, refuses_by, noted, answered, is_closed}
use Rattle.model_session_answers.specs.GetTokenInfo.{get_token_info}
use Rattle.model_session_answers.specs.Mechanisms.{get_mechanism_list, get_mechanism_info}
use Rattle.model_answers.specs.GenerateKey.{generate_key}
use Rattle.model_session_answers.specs.GenerateRandom.{generate_random}
use Rattle.model_session_answers.specs.OpenSession.{open_session}
use Rattle.model_session_answers.specs.CloseSession.{close_session, close_all_sessions}
use Rattle.model_session_answers.specs.GetSessionInfo.{get_session_info}
use Rattle.model_session_answers.specs.InitToken.{init_token, init_token_result, reset_token_result}
use Rattle.model_session_answers.specs.InitPin.{init_pin, init_pin_result}
use Rattle.model_session_answers.specs.SetPin.{set_pin, set_pin_result}
use Rattle.model_session_answers.specs.Login.{login, login_result}
use Rattle.model_session_answers.specs.Logout.{logout}
use Rattle.model_answers.specs.CreateObject.{create_object}
use Rattle.model_answers.specs.CopyObject.{copy_object}
use Rattle.model_answers.specs.DestroyObject.{destroy_object}
use Rattle.model_answers.specs.GetObjectSize.{get_object_size}
use Rattle.model_answers.specs.GetAttributeValue.{get_attribute_value}
use Rattle.model_answers.specs.SetAttributeValue.{set_attribute_value}
use Rattle.model_answers.specs.FindObjectsInit.{find_objects_init}
use Rattle.model_answers.specs.FindObjects.{find_objects, find_objects_final}
use Rattle.model_answers.specs.OperationInit.{operation_init}
use Rattle.model_answers.specs.CipherInit.{place_for}
use Rattle.model_answers.specs.Cipher.{cipher_last, cipher_update, ciphered}
use Rattle.model_answers.specs.Mac.{sign, verify, mac_update, mac_taken, signed, verified}
use Rattle.model_answers.specs.WrapKey.{wrap_key, wrapped_result}
use Rattle.model_answers.specs.UnwrapKey.{unwrap_key, unwrapped_result}

-- a call with its random bytes
unfoldable pub answer_to : View → Call → List ℕ → Reveal → Answer
answer_to v (call.GetTokenInfo slot) random reveal = get_token_info v slot
answer_to v (call.GetMechanismList slot) random reveal = get_mechanism_list v slot
answer_to v (call.GetMechanismInfo slot mechanism) random reveal = get_mechanism_info v slot mechanism
answer_to v (call.InitToken slot pin label) random reveal = init_token v slot pin label random reveal
answer_to v (call.InitPin session pin) random reveal = init_pin v session pin random
answer_to v (call.SetPin session pin new_pin) random reveal = set_pin v session pin new_pin random
answer_to v (call.OpenSession slot flags) random reveal = open_session v slot flags
answer_to v (call.CloseSession session) random reveal = close_session v session
answer_to v (call.CloseAllSessions slot) random reveal = close_all_sessions v slot
answer_to v (call.GetSessionInfo session) random reveal = get_session_info v session
answer_to v (call.Login session user pin) random reveal = login v session user pin
answer_to v (call.Logout session) random reveal = logout v session
answer_to v (call.CreateObject session template) random reveal = create_object v session template random
answer_to v (call.CopyObject session object template) random reveal = copy_object v session object template random
answer_to v (call.DestroyObject session object) random reveal = destroy_object v session object
answer_to v (call.GetObjectSize session object) random reveal = get_object_size v session object
answer_to v (call.GetAttributeValue session object query) random reveal = get_attribute_value v session object query
answer_to v (call.SetAttributeValue session object template) random reveal = set_attribute_value v session object template
answer_to v (call.FindObjectsInit session template) random reveal = find_objects_init v session template
answer_to v (call.FindObjects session max_count) random reveal = find_objects v session max_count
answer_to v (call.FindObjectsFinal session) random reveal = find_objects_final v session
answer_to v (call.EncryptInit session mechanism key) random reveal = operation_init (kind.Cipher Encrypt) v session mechanism key
answer_to v (call.Encrypt session input buffer_len) random reveal = cipher_last Encrypt v session (Some input) buffer_len
answer_to v (call.EncryptUpdate session input buffer_len) random reveal = cipher_update Encrypt v session input buffer_len
answer_to v (call.EncryptFinal session buffer_len) random reveal = cipher_last Encrypt v session None buffer_len
answer_to v (call.DecryptInit session mechanism key) random reveal = operation_init (kind.Cipher Decrypt) v session mechanism key
answer_to v (call.Decrypt session input buffer_len) random reveal = cipher_last Decrypt v session (Some input) buffer_len
answer_to v (call.DecryptUpdate session input buffer_len) random reveal = cipher_update Decrypt v session input buffer_len
answer_to v (call.DecryptFinal session buffer_len) random reveal = cipher_last Decrypt v session None buffer_len
answer_to v (call.SignInit session mechanism key) random reveal = operation_init (kind.Mac mac_place.Sign) v session mechanism key
answer_to v (call.Sign session input buffer_len) random reveal = sign v session (Some input) buffer_len
answer_to v (call.SignUpdate session input) random reveal = mac_update mac_place.Sign v session input
answer_to v (call.SignFinal session buffer_len) random reveal = sign v session None buffer_len
answer_to v (call.VerifyInit session mechanism key) random reveal = operation_init (kind.Mac mac_place.Verify) v session mechanism key
answer_to v (call.Verify session input signature) random reveal = verify v session (Some input) signature
answer_to v (call.VerifyUpdate session input) random reveal = mac_update mac_place.Verify v session input
answer_to v (call.VerifyFinal session signature) random reveal = verify v session None signature
answer_to v (call.GenerateKey session mechanism template) random reveal = generate_key v session mechanism template random
answer_to v (call.WrapKey session mechanism wrapping_key key buffer_len) random reveal =
    wrap_key v session mechanism wrapping_key key buffer_len
answer_to v (call.UnwrapKey session mechanism unwrapping_key wrapped template) random reveal =
    unwrap_key v session mechanism unwrapping_key wrapped template random
answer_to v (call.GenerateRandom session len) random reveal = generate_random v session len random

unfoldable pub answer : View → Call → List ℕ → Reveal → Answer
answer v call random reveal = if is_closed v then refuses_by v Busy else noted call (answer_to v call random reveal)

-- the answer to the result of the pending call, by its task
abbrev pub answer_outcome : View → Question → Task → TaskResult → Reveal → Answer
answer_outcome v q (Ciphers part o input) outcome r = ciphered v q.session (place_for o.direction) part o input outcome
answer_outcome v q (Takes p o input) outcome r = mac_taken v q.session p o input outcome
answer_outcome v q (Signs o input) outcome r = signed v q.session outcome
answer_outcome v q (Verifies o input signature) outcome r = verified v q.session outcome
answer_outcome v q (WrapsKey key value) outcome r = wrapped_result (answered v) outcome
answer_outcome v q (UnwrapsKey key wrapped state template random) outcome r = unwrapped_result (answered v) q.session outcome
answer_outcome v q (ChecksPin who verifier pin) outcome r = login_result (answered v) who outcome r
answer_outcome v q (MakesPin pin salt) outcome r = init_pin_result (answered v) pin salt outcome r
answer_outcome v q (ChangesPin who verifier pin new_pin salt) outcome r = set_pin_result (answered v) who new_pin salt outcome r
answer_outcome v q (InitsToken label pin salt) outcome r = init_token_result (answered v) label pin salt outcome r
answer_outcome v q (ResetsToken label verifier pin) outcome r = reset_token_result (answered v) label outcome r

abbrev pub answer_question : View → Option Question → TaskResult → Reveal → Answer
answer_question v None outcome reveal = refuses_by v Busy
answer_question v (Some q) outcome reveal = answer_outcome v q q.task outcome reveal

unfoldable pub answer_result : View → TaskResult → Reveal → Answer
answer_result v outcome reveal = answer_question v v.question outcome reveal

-- C_Login, C_SetPIN, C_InitPIN and C_InitToken
abbrev pub is_pin_function : Function → Bool
is_pin_function function.Login = true
is_pin_function function.SetPin = true
is_pin_function function.InitPin = true
is_pin_function function.InitToken = true
is_pin_function _ = false

-- and their jobs
abbrev pub is_pin_task : Task → Bool
is_pin_task (Ciphers part o input) = false
is_pin_task (Takes place o input) = false
is_pin_task (Signs o input) = false
is_pin_task (Verifies o input signature) = false
is_pin_task (WrapsKey key value) = false
is_pin_task (UnwrapsKey key wrapped state template random) = false
is_pin_task (ChecksPin who verifier pin) = true
is_pin_task (MakesPin pin salt) = true
is_pin_task (ChangesPin who verifier pin new_pin salt) = true
is_pin_task (InitsToken label pin salt) = true
is_pin_task (ResetsToken label verifier pin) = true

-- what makes an object
abbrev pub is_key_task : Task → Bool
is_key_task (UnwrapsKey key wrapped state template random) = true
is_key_task _ = false

-- the calls that may make, change or destroy an object
abbrev pub may_change_objects : Function → Bool
may_change_objects function.CreateObject = true
may_change_objects function.CopyObject = true
may_change_objects function.GenerateKey = true
may_change_objects function.UnwrapKey = true
may_change_objects function.SetAttributeValue = true
may_change_objects function.DestroyObject = true
may_change_objects _ = false

-- and those that change nothing which others see, whatever is returned
abbrev pub is_still_function : Function → Bool
is_still_function f = not (is_pin_function f) && not (may_change_objects f)
