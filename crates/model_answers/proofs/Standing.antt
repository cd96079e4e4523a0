-- What an answer that refuses leaves: one line for each call, and for the result of each pending call.
use Rattle.std.proofs.Common.{◌≡◌, ◌⊎◌, inl, inr, ℕ, ◌-◌, Bool, true, false, cond, List, [], length, Option, Some, None, refl, sym, subst}
use Rattle.std.specs.Option.{unwrap_or}
use Rattle.ck_types.specs.declared.entry.Entry.{Entry}
use Rattle.ck_types.specs.declared.attr_type.AttrType.TheVariants as attr
use Rattle.ck_types.specs.declared.mech_type.MechType.TheVariants.{AesEcb, AesKeyGen}
use Rattle.ck_types.specs.declared.mech_type.MechType.{MechType}
use Rattle.ck_types.specs.declared.rv.Rv.{Rv}
use Rattle.ck_types.specs.declared.rv.Rv.TheVariants.{Ok, FunctionFailed, PinIncorrect, SessionExists, WrappedKeyInvalid}
use Rattle.ck_types.specs.declared.session_state.SessionState.{SessionState}
use Rattle.ck_types.specs.declared.user_type.UserType.{UserType}
use Rattle.ck_types.specs.declared.user_type.UserType.TheVariants.{So, User}
use Rattle.ck_calls.specs.declared.call.Call.{Call}
use Rattle.ck_calls.specs.declared.call.Call.TheVariants as call
use Rattle.ck_calls.specs.declared.fields.Mechanism.{Mechanism}
use Rattle.ck_calls.specs.declared.function.Function.{Function}
use Rattle.ck_calls.specs.declared.function.Function.TheVariants as function
use Rattle.ck_calls.specs.declared.reply.Reply.TheVariants as reply
use Rattle.ck_mechanisms.specs.Table.{listed_numbers, mechanism_at, info_of}
use Rattle.attrs.specs.Objects.{attribute_of, flag}
use Rattle.aes_modes.specs.declared.direction.Direction.{Direction}
use Rattle.aes_modes.specs.declared.direction.Direction.TheVariants.{Encrypt, Decrypt}
use Rattle.streams.specs.declared.part.Part.{Part}
use Rattle.streams.specs.declared.part.Part.TheVariants.{Update, Last}
use Rattle.streams.specs.Lengths.{wanted}
use Rattle.templates.specs.declared.making.Making.TheVariants as making
use Rattle.templates.specs.Faults.{template_fault}
use Rattle.templates.specs.Made.{object_made, given_value, generated_value}
use Rattle.pin_record.specs.Verifiers.{verifier_for, new_rounds}
use Rattle.pin_record.specs.Records.{is_initialized, initialized_record, with_pin, with_tries}
use Rattle.precede.specs.declared.condition.Condition.{Condition}
use Rattle.precede.specs.declared.condition.Condition.TheVariants.{Busy, NoMechanism, DataTaken, CounterEnd, DataLength, EncryptedDataLength, SignatureLength, NoBuffer, SmallBuffer, TemplateRefused}
use Rattle.precede.specs.Condition.{code_of}
use Rattle.precede.specs.Table.{write}
use Rattle.ops.specs.declared.place.MacPlace.{MacPlace}
use Rattle.ops.specs.declared.place.Kind.{Kind}
use Rattle.ops.specs.declared.place.Kind.TheVariants.{Cipher, Mac}
use Rattle.ops.specs.declared.place.MacPlace.TheVariants as mac_place
use Rattle.ops.specs.Operations.{Operation, MacOperation, text_of, operation_in, mac_in, search_in, with_search}
use Rattle.model_views.specs.TaskResults.{TaskResult, Output, Taken, Unwrapped, BadWrapping, Right, Wrong, Made}
use Rattle.model_views.specs.Views.{View, Question, Task, Ciphers, Takes, Signs, Verifies, WrapsKey, UnwrapsKey, ChecksPin, MakesPin, ChangesPin, InitsToken, ResetsToken}
use Rattle.model_views.specs.Changes.{Stays}
use Rattle.model_views.specs.Answering.{Answer, Reveal, replies, refuses, refuses_by, becomes, asks, asks_checked, answered, is_closed, noted, session_of, with_operation, with_mac, index_of, object_at}
use Rattle.model_views.specs.Checked.{checked, object_row, state_in, made_by}
use Rattle.model_views.specs.Refusals.{is_refused}
use Rattle.model_views.proofs.Refused.{OnRefusal, refusal-leaves, no-refusal, refusal-if, refusal-rows, refusal-row, refusal-checked_by, refusal-checked, refusal-noted}
use Rattle.model_session_answers.specs.Pins.{verifier_or, others, is_charged, stores, resets}
use Rattle.model_session_answers.specs.OpenSession.{slot_row, open_row, opened, is_read_write}
use Rattle.model_session_answers.specs.GetTokenInfo.{told_token_info}
use Rattle.model_session_answers.specs.Mechanisms.{mechanism_info_row}
use Rattle.model_session_answers.specs.InitToken.{is_in_use, init_token_row, inits, may_init, init_token_result, reset_token_result}
use Rattle.model_session_answers.specs.InitPin.{init_pin_row, may_set_pin, init_pin_result}
use Rattle.model_session_answers.specs.SetPin.{owner, set_pin_row, set_pin_result}
use Rattle.model_session_answers.specs.CloseSession.{close_row, closed, all_closed}
use Rattle.model_session_answers.specs.GetSessionInfo.{info_row, told_session_info}
use Rattle.model_session_answers.specs.Login.{user_of, login_row, may_log_in, logged_in, login_result}
use Rattle.model_session_answers.specs.Logout.{logout_row, logged_out}
use Rattle.model_session_answers.specs.GenerateRandom.{random_row}
use Rattle.model_answers.specs.CreateObject.{adds_token_object, adds_session_object, adds, makes_row, makes_says, create_row, create_object}
use Rattle.model_answers.specs.CopyObject.{copy_row, copy_object}
use Rattle.model_answers.specs.DestroyObject.{destroy_row, destroyed}
use Rattle.model_answers.specs.GetObjectSize.{object_size}
use Rattle.model_answers.specs.GetAttributeValue.{attributes_told}
use Rattle.model_answers.specs.SetAttributeValue.{puts_object, set_row, set_attribute_value}
use Rattle.model_answers.specs.FindObjectsInit.{find_init_row, searches}
use Rattle.model_answers.specs.FindObjects.{search_row, answered_at_once, gives_found}
use Rattle.model_answers.specs.GenerateKey.{generation_at, generate_row, generate_key}
use Rattle.model_answers.specs.CipherInit.{place_for}
use Rattle.model_answers.specs.Cipher.{operation_or, cipher_row, cipher_says, cipher, update_function, last_function, ciphered}
use Rattle.model_answers.specs.OperationInit.{init_function, type_in, parameter_in, init_row, init_says, operation_begins, operation_init}
use Rattle.model_answers.specs.Mac.{mac_or, mac_row, mac_update_function, mac_update, signature_length, sign_row, sign_says, signs, verify_row, verify_says, verifies, mac_taken, signed, verified}
use Rattle.model_answers.specs.WrapKey.{wrapped_len, wrap_row, wrap_says, wraps, wrapped_result}
use Rattle.model_answers.specs.UnwrapKey.{key_ahead, unwrap_row, unwrap_says, unwraps, may_add, unwrapped_result}
use Rattle.model_answers.specs.Answers.{answer, answer_to, answer_outcome, answer_question, answer_result}
use Rattle.model_answers.specs.Standing.{ended_by, RefusesAlone, ended_with, LeavesTries, FailsAlone}

-- ---- calls

-- the view as it was, or another one; and others see nothing
abbrev pub OneOf : View → View → Answer → Type 0
OneOf v ended a = ((a.view ≡ v) ⊎ (a.view ≡ ended)) × (a.change ≡ Stays)

abbrev pub Alone : View → View → Answer → Type 0
Alone v ended a = OnRefusal (OneOf v ended) a

-- where none ends
pub alone-stays : (v : View) (a : Answer) → Alone v v a → is_refused a.says ≡ true → a.view ≡ v
alone-stays v a alone is = elim (alone.leaves is).0 [
  | inl same ↦ same
  | inr same ↦ same
]

-- a call whose conditions refuse by their codes, and which refuses nothing else
alone-checked : {v ended : View} (f : Function) (h : Condition → Bool) (x : Answer) → is_refused x.says ≡ false
    → Alone v ended (checked f h v x)
alone-checked {v} f h x told = refusal-checked f h v x (λ row. (inl refl, refl)) (no-refusal told)

told-if : (b : Bool) (x y : Answer) → is_refused x.says ≡ false → is_refused y.says ≡ false → is_refused (cond b x y).says ≡ false
told-if true x y p q = p
told-if false x y p q = q

inits-told : (v : View) (pin label random : List ℕ) → is_refused (inits v pin label random).says ≡ false
inits-told v pin label random =
    let checks = asks_checked v function.InitToken 0 (ResetsToken label (verifier_or v.token_record So) pin) So in
    told-if (is_initialized v.token_record) checks (asks v function.InitToken 0 (InitsToken label pin random)) refl refl

destroyed-told : (v : View) (handle : ℕ) (index : Option ℕ) → is_refused (destroyed v handle index).says ≡ false
destroyed-told v handle None = refl
destroyed-told v handle (Some index) = refl

puts-told : (v : View) (handle : ℕ) (o : List Entry) (index : Option ℕ) → is_refused (puts_object v handle o index).says ≡ false
puts-told v handle o None = refl
puts-told v handle o (Some index) = refl

adds-told : (v : View) (s : ℕ) (o : List Entry) → is_refused (adds v s o).says ≡ false
adds-told v s o = told-if (flag o attr.Token) (adds_token_object v o) (adds_session_object v s o) refl refl

-- ---- calls of which no refusal ends an operation

module _ (v ended : View) (s : ℕ) where
  -- the conditions of a call that makes or changes an object by a template
  alone-makes : (fault : Option Rv) (row : Condition) → Alone v ended (makes_says v fault row)
  alone-makes fault TemplateRefused = refusal-leaves {a = makes_says v fault TemplateRefused} (inl refl, refl)
  alone-makes fault row = refusal-row v row (inl refl, refl)

  alone-create : (template : List Entry) (random : List ℕ) → Alone v ended (create_object v s template random)
  alone-create template random =
      let fault = template_fault making.Create (state_in v s) [] template in
      let o = made_by fault (object_made making.Create [] template random (given_value template)) in
      refusal-checked_by function.CreateObject (create_row v s fault o) (makes_says v fault) (adds v s o) (alone-makes fault)
      (no-refusal (adds-told v s o))

  alone-copy : (handle : ℕ) (template : List Entry) (random : List ℕ) → Alone v ended (copy_object v s handle template random)
  alone-copy handle template random =
      let original = object_at v handle in
      let fault = template_fault making.Copy (state_in v s) (unwrap_or original []) template in
      let o = made_by fault (object_made making.Copy (unwrap_or original []) template random []) in
      refusal-checked_by function.CopyObject (copy_row v s original fault o) (makes_says v fault) (adds v s o) (alone-makes fault)
      (no-refusal (adds-told v s o))

  alone-set : (handle : ℕ) (template : List Entry) → Alone v ended (set_attribute_value v s handle template)
  alone-set handle template =
      let original = object_at v handle in
      let fault = template_fault making.Set (state_in v s) (unwrap_or original []) template in
      let o = made_by fault (object_made making.Set (unwrap_or original []) template [] []) in
      let index = index_of v.tokens handle in
      refusal-checked_by function.SetAttributeValue (set_row v s original fault) (makes_says v fault) (puts_object v handle o index)
      (alone-makes fault)
      (no-refusal (puts-told v handle o index))

  alone-generate : (m : Mechanism) (template : List Entry) (random : List ℕ) → Alone v ended (generate_key v s m template random)
  alone-generate m template random =
      let kind = making.Generate (unwrap_or (generation_at m.mech_type) AesKeyGen) in
      let fault = template_fault kind (state_in v s) [] template in
      let o = made_by fault (object_made kind [] template random (generated_value template random)) in
      refusal-checked_by function.GenerateKey (generate_row v s m fault o) (makes_says v fault) (adds v s o) (alone-makes fault)
      (no-refusal (adds-told v s o))

  alone-unwraps : (fault : Option Rv) (row : Condition) → Alone v ended (unwrap_says v fault row)
  alone-unwraps fault TemplateRefused = refusal-leaves {a = unwrap_says v fault TemplateRefused} (inl refl, refl)
  alone-unwraps fault row = refusal-row v row (inl refl, refl)

  pub alone-unwrap : (m : Mechanism) (key : Option (List Entry)) (wrapped : List ℕ) (template : List Entry) (random : List ℕ)
      (state : SessionState) (fault : Option Rv)
      → Alone v ended (unwraps v s m key wrapped template random state fault)
  alone-unwrap m key wrapped template random state fault =
      let task = UnwrapsKey (attribute_of (unwrap_or key []) attr.Value) wrapped state template random in
      let o = key_ahead template random (length wrapped - 8) in
      refusal-checked_by function.UnwrapKey (unwrap_row v s m key wrapped fault o) (unwrap_says v fault) (asks v function.UnwrapKey s task)
      (alone-unwraps fault) (no-refusal refl)

  alone-wraps : (n : ℕ) (row : Condition) → Alone v ended (wrap_says v n row)
  alone-wraps n NoBuffer = no-refusal {a = wrap_says v n NoBuffer} refl
  alone-wraps n SmallBuffer = no-refusal {a = wrap_says v n SmallBuffer} refl
  alone-wraps n row = refusal-row v row (inl refl, refl)

  pub alone-wrap : (m : Mechanism) (w k : Option (List Entry)) (buffer_len : Option ℕ) → Alone v ended (wraps v s m w k buffer_len)
  alone-wrap m w k buffer_len =
      let task = WrapsKey (attribute_of (unwrap_or w []) attr.Value) (attribute_of (unwrap_or k []) attr.Value) in
      let n = wrapped_len k in
      refusal-checked_by function.WrapKey (wrap_row v s m w k buffer_len) (wrap_says v n) (asks v function.WrapKey s task)
      (alone-wraps n) (no-refusal refl)

  -- without a mechanism an operation ends, which is no refusal
  alone-inits : (kind : Kind) (row : Condition) → Alone v ended (init_says kind v s row)
  alone-inits (Cipher d) NoMechanism = no-refusal {a = init_says (Cipher d) v s NoMechanism} refl
  alone-inits (Mac p) NoMechanism = no-refusal {a = init_says (Mac p) v s NoMechanism} refl
  alone-inits kind row = refusal-row v row (inl refl, refl)

  alone-begins : (kind : Kind) (mechanism : MechType) (parameter : List ℕ) (key : List Entry)
      → Alone v ended (operation_begins kind v s mechanism parameter key)
  alone-begins (Cipher d) mechanism parameter key = no-refusal {a = operation_begins (Cipher d) v s mechanism parameter key} refl
  alone-begins (Mac p) mechanism parameter key = no-refusal {a = operation_begins (Mac p) v s mechanism parameter key} refl

  alone-init : (kind : Kind) (m : Option Mechanism) (key : ℕ) → Alone v ended (operation_init kind v s m key)
  alone-init kind m key =
      let mechanism = unwrap_or (type_in kind m) AesEcb in
      let o = unwrap_or (object_at v key) [] in
      refusal-checked_by (init_function kind) (init_row kind v s m (object_at v key)) (init_says kind v s)
      (operation_begins kind v s mechanism (parameter_in m) o) (alone-inits kind)
      (alone-begins kind mechanism (parameter_in m) o)

  -- a part of a message is taken, and no refusal ends its operation
  alone-mac_update : (p : MacPlace) (input : List ℕ) → Alone v ended (mac_update p v s input)
  alone-mac_update p input =
      let o = mac_in (session_of v s) p in
      alone-checked (mac_update_function p) (mac_row v s o) (asks v (mac_update_function p) s (Takes p (mac_or o) input)) refl

-- ---- calls that may end the operation of their session

module _ (v : View) (s : ℕ) where
  alone-ciphers : (d : Direction) (n : ℕ) (row : Condition)
      → Alone v (with_operation v s (place_for d) None) (cipher_says v s (place_for d) n row)
  alone-ciphers d n DataTaken = refusal-leaves {a = cipher_says v s (place_for d) n DataTaken} (inr refl, refl)
  alone-ciphers d n CounterEnd = refusal-leaves {a = cipher_says v s (place_for d) n CounterEnd} (inr refl, refl)
  alone-ciphers d n DataLength = refusal-leaves {a = cipher_says v s (place_for d) n DataLength} (inr refl, refl)
  alone-ciphers d n EncryptedDataLength = refusal-leaves {a = cipher_says v s (place_for d) n EncryptedDataLength} (inr refl, refl)
  alone-ciphers d n NoBuffer = no-refusal {a = cipher_says v s (place_for d) n NoBuffer} refl
  alone-ciphers d n SmallBuffer = no-refusal {a = cipher_says v s (place_for d) n SmallBuffer} refl
  alone-ciphers d n row = refusal-row v row (inl refl, refl)

  alone-cipher : (f : Function) (d : Direction) (part : Part) (input : List ℕ) (buffer_len : Option ℕ)
      → Alone v (with_operation v s (place_for d) None) (cipher f d part v s input buffer_len)
  alone-cipher f d part input buffer_len =
      let o = operation_in (session_of v s) (place_for d) in
      let n = wanted part (text_of (operation_or o)) (length input) in
      refusal-checked_by f (cipher_row d v s o part input buffer_len) (cipher_says v s (place_for d) n)
      (asks v f s (Ciphers part (operation_or o) input))
      (alone-ciphers d n) (no-refusal refl)

  alone-signs : (n : ℕ) (row : Condition) → Alone v (with_mac v s mac_place.Sign None) (sign_says v s n row)
  alone-signs n DataTaken = refusal-leaves {a = sign_says v s n DataTaken} (inr refl, refl)
  alone-signs n NoBuffer = no-refusal {a = sign_says v s n NoBuffer} refl
  alone-signs n SmallBuffer = no-refusal {a = sign_says v s n SmallBuffer} refl
  alone-signs n row = refusal-row v row (inl refl, refl)

  alone-sign : (f : Function) (input : List ℕ) (buffer_len : Option ℕ)
      → Alone v (with_mac v s mac_place.Sign None) (signs f v s (mac_in (session_of v s) mac_place.Sign) input buffer_len)
  alone-sign f input buffer_len =
      let o = mac_in (session_of v s) mac_place.Sign in
      let n = signature_length o in
      refusal-checked_by f (sign_row v s o buffer_len) (sign_says v s n) (asks v f s (Signs (mac_or o) input)) (alone-signs n)
      (no-refusal refl)

  alone-verifies : (row : Condition) → Alone v (with_mac v s mac_place.Verify None) (verify_says v s row)
  alone-verifies DataTaken = refusal-leaves {a = verify_says v s DataTaken} (inr refl, refl)
  alone-verifies SignatureLength = refusal-leaves {a = verify_says v s SignatureLength} (inr refl, refl)
  alone-verifies row = refusal-row v row (inl refl, refl)

  alone-verify : (f : Function) (input signature : List ℕ)
      → Alone v (with_mac v s mac_place.Verify None) (verifies f v s (mac_in (session_of v s) mac_place.Verify) input signature)
  alone-verify f input signature =
      let o = mac_in (session_of v s) mac_place.Verify in
      refusal-checked_by f (verify_row v s o signature) (verify_says v s)
      (asks v f s (Verifies (mac_or o) input signature)) alone-verifies (no-refusal refl)

-- ---- all calls

alone-answer_to : (v : View) (c : Call) (random : List ℕ) (r : Reveal) → Alone v (ended_by c v) (answer_to v c random r)
unfolding answer_to
alone-answer_to v (call.GetTokenInfo slot) random r = alone-checked function.GetTokenInfo (slot_row slot) (replies v (told_token_info v)) refl
alone-answer_to v (call.GetMechanismList slot) random r =
    alone-checked function.GetMechanismList (slot_row slot) (replies v (reply.MechanismList listed_numbers)) refl
alone-answer_to v (call.GetMechanismInfo slot mechanism) random r =
    let info = info_of (unwrap_or (mechanism_at mechanism) AesEcb) in
    alone-checked function.GetMechanismInfo (mechanism_info_row slot mechanism) (replies v (reply.MechanismInfo info)) refl
alone-answer_to v (call.InitToken slot pin label) random r =
    alone-checked function.InitToken (init_token_row v r slot pin label) (inits v pin label random) (inits-told v pin label random)
alone-answer_to v (call.InitPin session pin) random r =
    alone-checked function.InitPin (init_pin_row v session pin) (asks v function.InitPin session (MakesPin pin random)) refl
alone-answer_to v (call.SetPin session pin new_pin) random r =
    let who = owner v.sessions.login in
    let task = ChangesPin who (verifier_or v.token_record who) pin new_pin random in
    alone-checked function.SetPin (set_pin_row v session who new_pin) (asks_checked v function.SetPin session task who) refl
alone-answer_to v (call.OpenSession slot flags) random r =
    alone-checked function.OpenSession (open_row v slot flags) (opened v (is_read_write flags)) refl
alone-answer_to v (call.CloseSession session) random r =
    alone-checked function.CloseSession (close_row v session) (becomes (reply.Code Ok) (closed v session)) refl
alone-answer_to v (call.CloseAllSessions slot) random r =
    alone-checked function.CloseAllSessions (slot_row slot) (becomes (reply.Code Ok) (all_closed v)) refl
alone-answer_to v (call.GetSessionInfo session) random r =
    alone-checked function.GetSessionInfo (info_row v session) (told_session_info v session) refl
alone-answer_to v (call.Login session user pin) random r =
    let who = unwrap_or (user_of user) User in
    let task = ChecksPin who (verifier_or v.token_record who) pin in
    alone-checked function.Login (login_row v session (user_of user) who) (asks_checked v function.Login session task who) refl
alone-answer_to v (call.Logout session) random r =
    alone-checked function.Logout (logout_row v session) (becomes (reply.Code Ok) (logged_out v)) refl
alone-answer_to v (call.CreateObject session template) random r = alone-create v v session template random
alone-answer_to v (call.CopyObject session object template) random r = alone-copy v v session object template random
alone-answer_to v (call.DestroyObject session object) random r =
    let index = index_of v.tokens object in
    alone-checked function.DestroyObject (destroy_row v session object) (destroyed v object index) (destroyed-told v object index)
alone-answer_to v (call.GetObjectSize session object) random r =
    alone-checked function.GetObjectSize (object_row v session object)
    (replies v (reply.ObjectSize (object_size (unwrap_or (object_at v object) [])))) refl
alone-answer_to v (call.GetAttributeValue session object query) random r =
    alone-checked function.GetAttributeValue (object_row v session object)
    (replies v (attributes_told (unwrap_or (object_at v object) []) query)) refl
alone-answer_to v (call.SetAttributeValue session object template) random r = alone-set v v session object template
alone-answer_to v (call.FindObjectsInit session template) random r =
    alone-checked function.FindObjectsInit (find_init_row v session) (searches v session template) refl
alone-answer_to v (call.FindObjects session max_count) random r =
    let found = unwrap_or (search_in (session_of v session)) [] in
    alone-checked function.FindObjects (search_row v session) (gives_found v session (answered_at_once max_count) found) refl
alone-answer_to v (call.FindObjectsFinal session) random r =
    alone-checked function.FindObjectsFinal (search_row v session)
    (becomes (reply.Code Ok) (record v { sessions = with_search v.sessions session None })) refl
alone-answer_to v (call.EncryptInit session mechanism key) random r = alone-init v v session (Cipher Encrypt) mechanism key
alone-answer_to v (call.Encrypt session input buffer_len) random r =
    alone-cipher v session (last_function Encrypt (Some input)) Encrypt Last input buffer_len
alone-answer_to v (call.EncryptUpdate session input buffer_len) random r =
    alone-cipher v session (update_function Encrypt) Encrypt Update input buffer_len
alone-answer_to v (call.EncryptFinal session buffer_len) random r =
    alone-cipher v session (last_function Encrypt None) Encrypt Last [] buffer_len
alone-answer_to v (call.DecryptInit session mechanism key) random r = alone-init v v session (Cipher Decrypt) mechanism key
alone-answer_to v (call.Decrypt session input buffer_len) random r =
    alone-cipher v session (last_function Decrypt (Some input)) Decrypt Last input buffer_len
alone-answer_to v (call.DecryptUpdate session input buffer_len) random r =
    alone-cipher v session (update_function Decrypt) Decrypt Update input buffer_len
alone-answer_to v (call.DecryptFinal session buffer_len) random r =
    alone-cipher v session (last_function Decrypt None) Decrypt Last [] buffer_len
alone-answer_to v (call.SignInit session mechanism key) random r = alone-init v v session (Mac mac_place.Sign) mechanism key
alone-answer_to v (call.Sign session input buffer_len) random r = alone-sign v session function.Sign input buffer_len
alone-answer_to v (call.SignUpdate session input) random r = alone-mac_update v v session mac_place.Sign input
alone-answer_to v (call.SignFinal session buffer_len) random r = alone-sign v session function.SignFinal [] buffer_len
alone-answer_to v (call.VerifyInit session mechanism key) random r = alone-init v v session (Mac mac_place.Verify) mechanism key
alone-answer_to v (call.Verify session input signature) random r = alone-verify v session function.Verify input signature
alone-answer_to v (call.VerifyUpdate session input) random r = alone-mac_update v v session mac_place.Verify input
alone-answer_to v (call.VerifyFinal session signature) random r = alone-verify v session function.VerifyFinal [] signature
alone-answer_to v (call.GenerateKey session mechanism template) random r = alone-generate v v session mechanism template random
alone-answer_to v (call.WrapKey session mechanism wrapping_key key buffer_len) random r =
    alone-wrap v v session mechanism (object_at v wrapping_key) (object_at v key) buffer_len
alone-answer_to v (call.UnwrapKey session mechanism unwrapping_key wrapped template) random r =
    let state = state_in v session in
    alone-unwrap v v session mechanism (object_at v unwrapping_key) wrapped template random state
    (template_fault (making.Unwrap (length wrapped - 8)) state [] template)
alone-answer_to v (call.GenerateRandom session len) random r =
    alone-checked function.GenerateRandom (random_row v session len) (replies v (reply.Random random)) refl

pub refuses-alone : (v : View) (c : Call) (random : List ℕ) (r : Reveal) → RefusesAlone c v (answer v c random r)
unfolding answer
refuses-alone v c random r =
    (refusal-if (is_closed v) {x = refuses_by v Busy} {y = noted c (answer_to v c random r)} (refusal-row v Busy (inl refl, refl))
    (refusal-noted c _ (alone-answer_to v c random r))).leaves

-- ---- results

-- a pending call of no operation is over, with other tries of one PIN
tried : (v : View) (q : Question) (code : Rv) → ((w : View) → ended_with q.session q.task w ≡ w) → (who : UserType) (n : ℕ)
    → LeavesTries v q (stores (reply.Code code) (with_tries v.token_record who n) (answered v))
tried v q code same So n =
    let new = record (answered v) { token_record = with_tries v.token_record So n } in
    record { so = n; user = v.token_record.user.tries; view = sym (same new); change = inr refl }
tried v q code same User n =
    let new = record (answered v) { token_record = with_tries v.token_record User n } in
    record { so = v.token_record.so.tries; user = n; view = sym (same new); change = inr refl }

module _ (v : View) (old : Question) (r : Reveal) where
  -- the pending call by its task
  abbrev with_task : Task → Question
  with_task t = record old { task = t }

  abbrev Fails : Task → Answer → Type 0
  Fails t a = OnRefusal (LeavesTries v (with_task t)) a

  abbrev session : ℕ
  session = old.session

  -- the operation ended, and all else as it was
  left : (t : Task) (a : Answer) → a.view ≡ ended_with session t (answered v) → a.change ≡ Stays → Fails t a
  left t a same still = refusal-leaves {a = a}
      (record { so = v.token_record.so.tries; user = v.token_record.user.tries; view = same; change = inl still })

  fails-ciphered : (part : Part) (o : Operation) (input : List ℕ) (x : TaskResult)
      → Fails (Ciphers part o input) (ciphered v session (place_for o.direction) part o input x)
  fails-ciphered Update o input (Output bytes) =
      no-refusal {a = ciphered v session (place_for o.direction) Update o input (Output bytes)} refl
  fails-ciphered Update o input x = left (Ciphers Update o input) (ciphered v session (place_for o.direction) Update o input x) refl refl
  fails-ciphered Last o input x = left (Ciphers Last o input) (ciphered v session (place_for o.direction) Last o input x) refl refl

  fails-taken : (p : MacPlace) (o : MacOperation) (input : List ℕ) (x : TaskResult) → Fails (Takes p o input) (mac_taken v session p o input x)
  fails-taken p o input Taken = no-refusal {a = mac_taken v session p o input Taken} refl
  fails-taken p o input x = left (Takes p o input) (mac_taken v session p o input x) refl refl

  fails-wrapped : (key value : Option (List ℕ)) (x : TaskResult) → Fails (WrapsKey key value) (wrapped_result (answered v) x)
  fails-wrapped key value (Output bytes) = no-refusal {a = wrapped_result (answered v) (Output bytes)} refl
  fails-wrapped key value x = left (WrapsKey key value) (wrapped_result (answered v) x) refl refl

  -- a task that ends no operation
  module _ (t : Task) (same : (w : View) → ended_with session t w ≡ w) where
    over : (code : Rv) → Fails t (refuses (answered v) code)
    over code = left t (refuses (answered v) code) (sym (same (answered v))) refl

    over-tried : (code : Rv) (who : UserType) → Fails t (stores (reply.Code code) (with_tries v.token_record who (others r)) (answered v))
    over-tried code who =
        refusal-leaves {a = stores (reply.Code code) (with_tries v.token_record who (others r)) (answered v)}
        (tried v (with_task t) code same who (others r))

    fails-unwrapped : (x : TaskResult) → Fails t (unwrapped_result (answered v) session x)
    fails-unwrapped (Unwrapped o) =
        let w = answered v in
        refusal-if (may_add w session)
        (refusal-rows write (makes_row w (state_in w session) None o) (refuses_by w) (adds w session o) (λ row. over (code_of Ok row))
        (no-refusal (adds-told w session o)))
        (over FunctionFailed)
    fails-unwrapped BadWrapping = over WrappedKeyInvalid
    fails-unwrapped _ = over FunctionFailed

    fails-login : (who : UserType) (x : TaskResult) → Fails t (login_result (answered v) who x r)
    fails-login who Right =
        let w = answered v in
        let new = with_tries v.token_record who (others r) in
        refusal-if (is_charged v.token_record who (others r))
        (refusal-if (may_log_in w who) (no-refusal {a = stores (reply.Code Ok) new (logged_in w who r)} refl)
        (over-tried FunctionFailed who))
        (over FunctionFailed)
    fails-login who Wrong = over PinIncorrect
    fails-login who _ = over FunctionFailed

    fails-init_pin : (pin salt : List ℕ) (x : TaskResult) → Fails t (init_pin_result (answered v) pin salt x r)
    fails-init_pin pin salt Made =
        let new = with_pin v.token_record User (verifier_for pin salt new_rounds) (others r) in
        refusal-if (may_set_pin (answered v) r) (no-refusal {a = stores (reply.Code Ok) new (answered v)} refl) (over FunctionFailed)
    fails-init_pin pin salt _ = over FunctionFailed

    fails-set_pin : (who : UserType) (pin salt : List ℕ) (x : TaskResult) → Fails t (set_pin_result (answered v) who pin salt x r)
    fails-set_pin who pin salt Right =
        let new = with_pin v.token_record who (verifier_for pin salt new_rounds) (others r) in
        refusal-if (is_charged v.token_record who (others r))
        (refusal-if (is_initialized v.token_record) (no-refusal {a = stores (reply.Code Ok) new (answered v)} refl)
        (over-tried FunctionFailed who))
        (over FunctionFailed)
    fails-set_pin who pin salt Wrong = over PinIncorrect
    fails-set_pin who pin salt _ = over FunctionFailed

    fails-init_token : (label pin salt : List ℕ) (x : TaskResult) → Fails t (init_token_result (answered v) label pin salt x r)
    fails-init_token label pin salt Made =
        let new = initialized_record label (verifier_for pin salt new_rounds) 0 in
        refusal-if (may_init (answered v))
        (refusal-if (is_in_use (answered v) r) (over SessionExists) (no-refusal {a = resets new (answered v)} refl))
        (over FunctionFailed)
    fails-init_token label pin salt _ = over FunctionFailed

    fails-reset_token : (label : List ℕ) (x : TaskResult) → Fails t (reset_token_result (answered v) label x r)
    fails-reset_token label Right =
        let new = initialized_record label (verifier_or v.token_record So) (others r) in
        refusal-if (is_charged v.token_record So (others r))
        (refusal-if (is_in_use (answered v) r) (over-tried SessionExists So) (no-refusal {a = resets new (answered v)} refl))
        (over FunctionFailed)
    fails-reset_token label Wrong = over PinIncorrect
    fails-reset_token label _ = over FunctionFailed

  fails-outcome : (t : Task) (x : TaskResult) → Fails t (answer_outcome v old t x r)
  fails-outcome (Ciphers part o input) x = fails-ciphered part o input x
  fails-outcome (Takes p o input) x = fails-taken p o input x
  fails-outcome (Signs o input) x = left (Signs o input) (signed v session x) refl refl
  fails-outcome (Verifies o input signature) x = left (Verifies o input signature) (verified v session x) refl refl
  fails-outcome (WrapsKey key value) x = fails-wrapped key value x
  fails-outcome (UnwrapsKey key wrapped state template random) x =
      fails-unwrapped (UnwrapsKey key wrapped state template random) (λ w. refl) x
  fails-outcome (ChecksPin who verifier pin) x = fails-login (ChecksPin who verifier pin) (λ w. refl) who x
  fails-outcome (MakesPin pin salt) x = fails-init_pin (MakesPin pin salt) (λ w. refl) pin salt x
  fails-outcome (ChangesPin who verifier pin new_pin salt) x =
      fails-set_pin (ChangesPin who verifier pin new_pin salt) (λ w. refl) who new_pin salt x
  fails-outcome (InitsToken label pin salt) x = fails-init_token (InitsToken label pin salt) (λ w. refl) label pin salt x
  fails-outcome (ResetsToken label verifier pin) x = fails-reset_token (ResetsToken label verifier pin) (λ w. refl) label x

pub fails-alone : (v : View) (q : Question) (outcome : TaskResult) (r : Reveal) → v.question ≡ Some q
    → FailsAlone v q (answer_result v outcome r)
unfolding answer_result
fails-alone v q outcome r asked =
    subst (λ o. FailsAlone v q (answer_question v o outcome r)) (sym asked) (fails-outcome v q r q.task outcome).leaves
