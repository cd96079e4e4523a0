-- Every answer is proper: one line for each call.
mod CreateObject
mod CopyObject
mod DestroyObject
mod SetAttributeValue
mod GenerateKey
mod FindObjects
mod FindObjectsInit
mod CipherInit
mod Cipher
mod MacInit
mod OperationInit
mod Mac
pub mod WrapKey
pub mod UnwrapKey
use Rattle.std.proofs.Common.{◌≡◌, ℕ, ◌^◌, Bool, true, false, cond, not, List, Option, Some, None, refl, sym, ◌∙◌, ap}
use Rattle.std.specs.Prelude.{◌||◌, nat_le, is_some}
use Rattle.std.specs.Option.{option_map}
use Rattle.ck_types.specs.declared.rv.Rv.TheVariants.{FunctionFailed}
use Rattle.ck_calls.specs.declared.call.Call.{Call}
use Rattle.ck_calls.specs.declared.call.Call.TheVariants as call
use Rattle.ck_calls.specs.declared.reply.Reply.TheVariants.{Code, ObjectSize}
use Rattle.ck_calls.specs.Functions.{function_of}
use Rattle.aes_modes.specs.declared.direction.Direction.TheVariants.{Encrypt, Decrypt}
use Rattle.ops.specs.declared.place.Place.{Place}
use Rattle.ops.specs.declared.place.Kind.TheVariants as kind
use Rattle.ops.specs.declared.place.MacPlace.TheVariants as mac_place
use Rattle.model_views.specs.TaskResults.{TaskResult, Output, BadPadding, Taken, Unwrapped, BadWrapping, Right, Wrong, Made, mask_outcome}
use Rattle.precede.specs.declared.condition.Condition.TheVariants.{Busy}
use Rattle.streams.specs.declared.part.Part.{Part}
use Rattle.ops.specs.Operations.{Operation, mask_operation, mask_mac}
use Rattle.ck_types.specs.declared.entry.Entry.{Entry}
use Rattle.attrs.specs.Masking.{mask as mask_object}
use Rattle.pin_record.specs.Records.{TokenRecord}
use Rattle.streams.specs.declared.part.Part.TheVariants.{Update, Last}
use Rattle.model_views.specs.Views.{View, Question, Task, Ciphers, Takes, Signs, Verifies, WrapsKey, UnwrapsKey, ChecksPin, MakesPin, ChangesPin, InitsToken, ResetsToken, mask, mask_question, mask_task}
use Rattle.ck_calls.specs.declared.function.Function.{Function}
use Rattle.ck_calls.specs.declared.function.Function.TheVariants as function
use Rattle.model_views.proofs.Masks.{mask-twice}
use Rattle.model_views.specs.Changes.{Stays, recorded}
use Rattle.model_views.specs.Answering.{Said, Replies, Asks, Answer, Reveal, mask_said, noted, noted_by, shown, mask_reveal, refuses, refuses_by, answered, is_closed, pin_checked_in}
use Rattle.model_answers.specs.Cipher.{ciphered}
use Rattle.model_answers.specs.CipherInit.{place_for}
use Rattle.model_answers.specs.Mac.{mac_taken, signed, verified}
use Rattle.model_answers.specs.WrapKey.{wrapped_result}
use Rattle.model_session_answers.specs.Login.{login_result}
use Rattle.model_session_answers.specs.InitPin.{init_pin_result}
use Rattle.model_session_answers.specs.SetPin.{set_pin_result}
use Rattle.model_session_answers.specs.InitToken.{init_token_result, reset_token_result}
use Rattle.model_answers.specs.Answers.{answer, answer_to, answer_outcome, answer_question, answer_result, is_pin_task, is_key_task, is_still_function}
use Rattle.model_views.specs.Refusals.{resource_error_in}
use Rattle.model_views.proofs.Blind.{IsProper, IsFair, Leaves, blind-row, blind-refusal, fair, fair-row, fair-refusal}
use Rattle.model_session_answers.proofs.GetTokenInfo.{proper-get_token_info}
use Rattle.model_session_answers.proofs.Mechanisms.{proper-get_mechanism_list, proper-get_mechanism_info}
use Rattle.model_answers.proofs.Proper.GenerateKey.{proper-generate_key}
use Rattle.model_session_answers.proofs.GenerateRandom.{proper-generate_random}
use Rattle.model_session_answers.proofs.Over.{IsOver, over-refused}
use Rattle.model_session_answers.proofs.InitToken.{proper-init_token, blind-init_token, blind-reset_token, over-init_token, over-reset_token}
use Rattle.model_session_answers.proofs.InitPin.{proper-init_pin, blind-init_pin, over-init_pin}
use Rattle.model_session_answers.proofs.SetPin.{proper-set_pin, blind-set_pin, over-set_pin}
use Rattle.model_session_answers.proofs.Login.{proper-login, blind-login, over-login}
use Rattle.model_session_answers.proofs.OpenSession.{proper-open_session}
use Rattle.model_session_answers.proofs.CloseSession.{proper-close_session, proper-close_all_sessions}
use Rattle.model_session_answers.proofs.GetSessionInfo.{proper-get_session_info}
use Rattle.model_session_answers.proofs.Logout.{proper-logout}
use Rattle.model_answers.proofs.Proper.CreateObject.{proper-create_object}
use Rattle.model_answers.proofs.Proper.CopyObject.{proper-copy_object}
use Rattle.model_answers.proofs.Proper.DestroyObject.{proper-destroy_object}
use Rattle.model_answers.specs.GetObjectSize.{object_size}
use Rattle.model_answers.specs.GetAttributeValue.{attributes_told}
use Rattle.model_answers.proofs.Sizes.{object_size-mask}
use Rattle.model_answers.proofs.Telling.{attributes_told-mask}
use Rattle.model_views.proofs.Checks.{proper-reads}
use Rattle.model_answers.proofs.Proper.SetAttributeValue.{proper-set_attribute_value}
use Rattle.model_answers.proofs.Proper.FindObjects.{proper-find_objects, proper-find_objects_final}
use Rattle.model_answers.proofs.Proper.FindObjectsInit.{proper-find_objects_init}
use Rattle.model_answers.proofs.Proper.OperationInit.{proper-operation_init}
use Rattle.model_answers.proofs.Proper.Cipher.{proper-update, proper-last, blind-ciphered, plain-ciphered}
use Rattle.model_answers.proofs.Proper.Mac.{proper-sign, proper-verify, proper-mac_update, blind-taken, blind-signed, blind-verified, over-taken, over-signed, over-verified, still-taken}
use Rattle.model_answers.proofs.Proper.WrapKey.{proper-wrap_key, blind-wrapped, over-wrapped, still-wrapped}
use Rattle.model_answers.proofs.Proper.UnwrapKey.{proper-unwrap_key, blind-unwrapped, over-unwrapped, record-unwrapped}

pub proper-answer_to : (c : Call) (random : List ℕ) → IsProper (λ v r. answer_to v c random r) (is_still_function (function_of c))
unfolding answer_to
proper-answer_to (call.GetTokenInfo slot) random = proper-get_token_info slot
proper-answer_to (call.GetMechanismList slot) random = proper-get_mechanism_list slot
proper-answer_to (call.GetMechanismInfo slot mechanism) random = proper-get_mechanism_info slot mechanism
proper-answer_to (call.InitToken slot pin label) random = proper-init_token slot pin label random
proper-answer_to (call.InitPin session pin) random = proper-init_pin session pin random
proper-answer_to (call.SetPin session pin new_pin) random = proper-set_pin session pin new_pin random
proper-answer_to (call.OpenSession slot flags) random = proper-open_session slot flags
proper-answer_to (call.CloseSession session) random = proper-close_session session
proper-answer_to (call.CloseAllSessions slot) random = proper-close_all_sessions slot
proper-answer_to (call.GetSessionInfo session) random = proper-get_session_info session
proper-answer_to (call.Login session user pin) random = proper-login session user pin
proper-answer_to (call.Logout session) random = proper-logout session
proper-answer_to (call.CreateObject session template) random = proper-create_object session template random
proper-answer_to (call.CopyObject session object template) random = proper-copy_object session object template random
proper-answer_to (call.DestroyObject session object) random = proper-destroy_object session object
proper-answer_to (call.GetObjectSize session object) random =
    proper-reads function.GetObjectSize session object (λ o. ObjectSize (object_size o)) (λ o. ap ObjectSize (object_size-mask o))
    (λ o. refl)
proper-answer_to (call.GetAttributeValue session object query) random =
    proper-reads function.GetAttributeValue session object (λ o. attributes_told o query) (λ o. attributes_told-mask o query) (λ o. refl)
proper-answer_to (call.SetAttributeValue session object template) random = proper-set_attribute_value session object template
proper-answer_to (call.FindObjectsInit session template) random = proper-find_objects_init session template
proper-answer_to (call.FindObjects session max_count) random = proper-find_objects session max_count
proper-answer_to (call.FindObjectsFinal session) random = proper-find_objects_final session
proper-answer_to (call.EncryptInit session mechanism key) random = proper-operation_init (kind.Cipher Encrypt) session mechanism key
proper-answer_to (call.Encrypt session input buffer_len) random = proper-last Encrypt session (Some input) buffer_len
proper-answer_to (call.EncryptUpdate session input buffer_len) random = proper-update Encrypt session input buffer_len
proper-answer_to (call.EncryptFinal session buffer_len) random = proper-last Encrypt session None buffer_len
proper-answer_to (call.DecryptInit session mechanism key) random = proper-operation_init (kind.Cipher Decrypt) session mechanism key
proper-answer_to (call.Decrypt session input buffer_len) random = proper-last Decrypt session (Some input) buffer_len
proper-answer_to (call.DecryptUpdate session input buffer_len) random = proper-update Decrypt session input buffer_len
proper-answer_to (call.DecryptFinal session buffer_len) random = proper-last Decrypt session None buffer_len
proper-answer_to (call.SignInit session mechanism key) random = proper-operation_init (kind.Mac mac_place.Sign) session mechanism key
proper-answer_to (call.Sign session input buffer_len) random = proper-sign session (Some input) buffer_len
proper-answer_to (call.SignUpdate session input) random = proper-mac_update mac_place.Sign session input
proper-answer_to (call.SignFinal session buffer_len) random = proper-sign session None buffer_len
proper-answer_to (call.VerifyInit session mechanism key) random = proper-operation_init (kind.Mac mac_place.Verify) session mechanism key
proper-answer_to (call.Verify session input signature) random = proper-verify session (Some input) signature
proper-answer_to (call.VerifyUpdate session input) random = proper-mac_update mac_place.Verify session input
proper-answer_to (call.VerifyFinal session signature) random = proper-verify session None signature
proper-answer_to (call.GenerateKey session mechanism template) random = proper-generate_key session mechanism template random
proper-answer_to (call.WrapKey session mechanism wrapping_key key buffer_len) random =
    proper-wrap_key session mechanism wrapping_key key buffer_len
proper-answer_to (call.UnwrapKey session mechanism unwrapping_key wrapped template) random =
    proper-unwrap_key session mechanism unwrapping_key wrapped template random
proper-answer_to (call.GenerateRandom session len) random = proper-generate_random session len random

-- ---- calls

closed-mask : (v : View) → is_closed (mask v) ≡ is_closed v
unfolding is_closed
closed-mask v = ap (λ b. b ||
    (nat_le (2 ^ 63) v.sessions.next_number || (nat_le (2 ^ 63) v.next_handle || nat_le (2 ^ 63) v.next_question))) (out v.question) where
      out : (q : Option Question) → is_some (option_map mask_question q) ≡ is_some q
      out None = refl
      out (Some q) = refl

-- the call that becomes pending is noted in the view alone
pub shown-noted : (c : Call) (a : Answer) → shown (noted c a) ≡ noted c (shown a)
shown-noted c a = at a.says where
  at : (s : Said) → shown (noted_by c a s) ≡ noted_by c (shown a) (mask_said s)
  at (Replies reply) = refl
  at (Asks q) = refl

pub fair-noted : {quiet : Bool} (c : Call) (v : View) (a : Answer) → IsFair quiet v a → IsFair quiet v (noted c a)
fair-noted {quiet} c v a p = at a.says where
  at : (s : Said) → IsFair quiet v (noted_by c a s)
  at (Replies reply) = p
  at (Asks q) = record { plain = p.plain; still = p.still; asks = p.asks; shows = p.shows; charges = p.charges; seats = p.seats }

pub shown-answer : (v : View) (c : Call) (random : List ℕ) (r : Reveal)
    → shown (answer (mask v) c random (mask_reveal r)) ≡ shown (answer v c random r)
unfolding answer
shown-answer v c random r = blind-row v Busy _ (is_closed v) _ _ (closed-mask v)
    (shown-noted c _ ∙ ap (noted c) ((proper-answer_to c random).blind v r) ∙ sym (shown-noted c (answer_to v c random r)))

pub fair-answer : (v : View) (c : Call) (random : List ℕ) (r : Reveal) → IsFair (is_still_function (function_of c)) v (answer v c random r)
unfolding answer
fair-answer v c random r = fair-row v Busy (is_closed v) refl
    (fair-noted c v (answer_to v c random r) ((proper-answer_to c random).fair v r))

pub plain-answer : (v : View) (c : Call) (random : List ℕ) (r : Reveal) → resource_error_in (answer v c random r).says ≡ None
plain-answer v c random r = (fair-answer v c random r).plain

pub still-answer : (v : View) (c : Call) (random : List ℕ) (r : Reveal) → is_still_function (function_of c) ≡ true
    → (answer v c random r).change ≡ Stays
still-answer v c random r quiet = (fair-answer v c random r).still quiet

pub leaves-answer : (v : View) (c : Call) (random : List ℕ) (r : Reveal)
    → Leaves v.question (answer v c random r).says (answer v c random r).view.question
leaves-answer v c random r = (fair-answer v c random r).asks

-- a call becomes pending where none is
pub none-asked : (v : View) (c : Call) (random : List ℕ) (r : Reveal) (q : Question) → (answer v c random r).says ≡ Asks q
    → v.question ≡ None
unfolding answer is_closed
none-asked v c random r q is = none v.question refl where
  none : (o : Option Question) → v.question ≡ o → v.question ≡ None
  none None e = e
  none (Some p) e = let k : Replies (Code FunctionFailed) ≡ Asks q = rw e at is in cc

-- while one is pending, nothing is done
pub busy-answer : (v : View) (c : Call) (random : List ℕ) (r : Reveal) (q : Question) → v.question ≡ Some q → (answer v c random r).view ≡ v
unfolding answer is_closed
busy-answer v c random r q is = rw is refl

-- ---- results

-- a result reveals what a key's value is only in the key
unmasked : (f : TaskResult → Answer) → ((o : List Entry) → f (Unwrapped (mask_object o)) ≡ f (Unwrapped o)) → (x : TaskResult)
    → f (mask_outcome x) ≡ f x
unmasked f same (Output bytes) = refl
unmasked f same BadPadding = refl
unmasked f same Taken = refl
unmasked f same (Unwrapped o) = same o
unmasked f same BadWrapping = refl
unmasked f same Right = refl
unmasked f same Wrong = refl
unmasked f same Made = refl

-- it comes to a task that makes none
unmasked-ciphered : (v : View) (s : ℕ) (p : Place) (part : Part) (o : Operation) (input : List ℕ) (x : TaskResult)
    → ciphered v s p part o input (mask_outcome x) ≡ ciphered v s p part o input x
unmasked-ciphered v s p Update o input x = unmasked (λ y. ciphered v s p Update o input y) (λ k. refl) x
unmasked-ciphered v s p Last o input x = unmasked (λ y. ciphered v s p Last o input y) (λ k. refl) x

blind-outcome : (v : View) (q : Question) (t : Task) (x : TaskResult) (r : Reveal)
    → shown (answer_outcome (mask v) (mask_question q) (mask_task t) (mask_outcome x) (mask_reveal r)) ≡ shown (answer_outcome v q t x r)
blind-outcome v q (Ciphers part o input) x r =
    ap shown (unmasked-ciphered (mask v) q.session (place_for o.direction) part (mask_operation o) input x)
    ∙ blind-ciphered v q.session (place_for o.direction) part o input x
blind-outcome v q (Takes p o input) x r = ap shown (unmasked (λ y. mac_taken (mask v) q.session p (mask_mac o) input y) (λ k. refl) x)
    ∙ blind-taken v q.session p o input x
blind-outcome v q (Signs o input) x r = ap shown (unmasked (λ y. signed (mask v) q.session y) (λ k. refl) x) ∙ blind-signed v q.session x
blind-outcome v q (Verifies o input signature) x r = ap shown (unmasked (λ y. verified (mask v) q.session y) (λ k. refl) x)
    ∙ blind-verified v q.session x
blind-outcome v q (WrapsKey key value) x r = ap shown (unmasked (λ y. wrapped_result (answered (mask v)) y) (λ k. refl) x)
    ∙ blind-wrapped (answered v) x
blind-outcome v q (UnwrapsKey key wrapped state template random) x r = blind-unwrapped v q.session x
blind-outcome v q (ChecksPin who verifier pin) x r =
    ap shown (unmasked (λ y. login_result (answered (mask v)) who y (mask_reveal r)) (λ k. refl) x) ∙ blind-login (answered v) who x r
blind-outcome v q (MakesPin pin salt) x r =
    ap shown (unmasked (λ y. init_pin_result (answered (mask v)) pin salt y (mask_reveal r)) (λ k. refl) x)
    ∙ blind-init_pin (answered v) pin salt x r
blind-outcome v q (ChangesPin who verifier pin new_pin salt) x r =
    ap shown (unmasked (λ y. set_pin_result (answered (mask v)) who new_pin salt y (mask_reveal r)) (λ k. refl) x)
    ∙ blind-set_pin (answered v) who new_pin salt x r
blind-outcome v q (InitsToken label pin salt) x r =
    ap shown (unmasked (λ y. init_token_result (answered (mask v)) label pin salt y (mask_reveal r)) (λ k. refl) x)
    ∙ blind-init_token (answered v) label pin salt x r
blind-outcome v q (ResetsToken label verifier pin) x r =
    ap shown (unmasked (λ y. reset_token_result (answered (mask v)) label y (mask_reveal r)) (λ k. refl) x)
    ∙ blind-reset_token (answered v) label x r

pub shown-result : (v : View) (outcome : TaskResult) (r : Reveal)
    → shown (answer_result (mask v) (mask_outcome outcome) (mask_reveal r)) ≡ shown (answer_result v outcome r)
unfolding answer_result
shown-result v outcome r = out v.question where
  out : (q : Option Question) → shown (answer_question (mask v) (option_map mask_question q) (mask_outcome outcome) (mask_reveal r))
      ≡ shown (answer_question v q outcome r)
  out None = blind-refusal v FunctionFailed
  out (Some q) = blind-outcome v q q.task outcome r

over-outcome : (v : View) (q : Question) (t : Task) (outcome : TaskResult) (r : Reveal) → IsOver v (answer_outcome v q t outcome r)
over-outcome v q (Ciphers part o input) outcome r = record { plain = plain-ciphered outcome; unasking = refl; over = refl; shows = refl }
over-outcome v q (Takes p o input) outcome r = over-taken v q.session p o input outcome
over-outcome v q (Signs o input) outcome r = over-signed v q.session outcome
over-outcome v q (Verifies o input signature) outcome r = over-verified v q.session outcome
over-outcome v q (WrapsKey key value) outcome r = over-wrapped v outcome
over-outcome v q (UnwrapsKey key wrapped state template random) outcome r = over-unwrapped v q.session outcome
over-outcome v q (ChecksPin who verifier pin) outcome r = over-login v who outcome r
over-outcome v q (MakesPin pin salt) outcome r = over-init_pin v pin salt outcome r
over-outcome v q (ChangesPin who verifier pin new_pin salt) outcome r = over-set_pin v who new_pin salt outcome r
over-outcome v q (InitsToken label pin salt) outcome r = over-init_token v label pin salt outcome r
over-outcome v q (ResetsToken label verifier pin) outcome r = over-reset_token v label outcome r

over-answer : (v : View) (outcome : TaskResult) (r : Reveal) → IsOver v (answer_result v outcome r)
unfolding answer_result
over-answer v outcome r = out v.question refl where
  out : (q : Option Question) → v.question ≡ q → IsOver v (answer_question v q outcome r)
  out None e = record { plain = refl; unasking = refl; over = e; shows = refl }
  out (Some q) e = over-outcome v q q.task outcome r

-- a result of no PIN changes no record
pub record-outcome : (v : View) (q : Question) (t : Task) (outcome : TaskResult) (r : Reveal) (old : TokenRecord)
    → is_pin_task t ≡ false → recorded (answer_outcome v q t outcome r).change old ≡ old
record-outcome v q (Ciphers part o input) outcome r old quiet = refl
record-outcome v q (Takes p o input) outcome r old quiet = ap (λ c. recorded c old) (still-taken v q.session p o input outcome)
record-outcome v q (Signs o input) outcome r old quiet = refl
record-outcome v q (Verifies o input signature) outcome r old quiet = refl
record-outcome v q (WrapsKey key value) outcome r old quiet = ap (λ c. recorded c old) (still-wrapped (answered v) outcome)
record-outcome v q (UnwrapsKey key wrapped state template random) outcome r old quiet = record-unwrapped (answered v) q.session outcome old
record-outcome v q _ outcome r old quiet = let k : true ≡ false = quiet in cc

-- and where it makes no key nothing that others see
still-outcome : (v : View) (q : Question) (t : Task) (outcome : TaskResult) (r : Reveal) → is_pin_task t ≡ false
    → is_key_task t ≡ false → (answer_outcome v q t outcome r).change ≡ Stays
still-outcome v q (Ciphers part o input) outcome r quiet made = refl
still-outcome v q (Takes p o input) outcome r quiet made = still-taken v q.session p o input outcome
still-outcome v q (Signs o input) outcome r quiet made = refl
still-outcome v q (Verifies o input signature) outcome r quiet made = refl
still-outcome v q (WrapsKey key value) outcome r quiet made = still-wrapped (answered v) outcome
still-outcome v q (UnwrapsKey key wrapped state template random) outcome r quiet made = let k : true ≡ false = made in cc
still-outcome v q _ outcome r quiet made = let k : true ≡ false = quiet in cc

-- the answer to a result is that to the pending call's
pub result-is : (v : View) (q : Question) (outcome : TaskResult) (r : Reveal) → v.question ≡ Some q
    → answer_result v outcome r ≡ answer_outcome v q q.task outcome r
unfolding answer_result
result-is v q outcome r asked = ap (λ o. answer_question v o outcome r) asked

pub still-result : (v : View) (q : Question) (outcome : TaskResult) (r : Reveal) → v.question ≡ Some q → is_pin_task q.task ≡ false
    → is_key_task q.task ≡ false → (answer_result v outcome r).change ≡ Stays
still-result v q outcome r asked quiet made = ap (λ (a : Answer). a.change) (result-is v q outcome r asked)
    ∙ still-outcome v q q.task outcome r quiet made

pub over-result : (v : View) (outcome : TaskResult) (r : Reveal) → (answer_result v outcome r).view.question ≡ None
over-result v outcome r = (over-answer v outcome r).over

pub plain-result : (v : View) (outcome : TaskResult) (r : Reveal) → resource_error_in (answer_result v outcome r).says ≡ None
plain-result v outcome r = (over-answer v outcome r).plain

pub unasking-result : (v : View) (outcome : TaskResult) (r : Reveal) → pin_checked_in (answer_result v outcome r).says ≡ None
unasking-result v outcome r = (over-answer v outcome r).unasking

pub record-result : (v : View) (outcome : TaskResult) (r : Reveal)
    → (answer_result v outcome r).view.token_record ≡ recorded (answer_result v outcome r).change v.token_record
record-result v outcome r = (over-answer v outcome r).shows
