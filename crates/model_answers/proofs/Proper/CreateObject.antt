-- C_CreateObject.
use Rattle.std.proofs.Common.{◌≢◌, ◌+◌, ◌++◌, length, ◌≡◌, ℕ, Bool, false, not, List, [], ◌∷◌, map, Option, Some, None, refl, sym, ◌∙◌, ap, arith}
use Rattle.std.specs.Prelude.{◌&&◌, nat_le}
use Rattle.std.proofs.lemmas.Bool.{false≢true}
use Rattle.ck_types.specs.declared.constants.TheConstants.{MAX_SESSION_OBJECTS}
use Rattle.ck_types.specs.declared.attr_type.AttrType.{AttrType}
use Rattle.ck_types.specs.declared.attr_type.AttrType.TheVariants as attr
use Rattle.ck_types.specs.Numbers.{attr_type_number}
use Rattle.ck_types.specs.declared.rv.Rv.{Rv}
use Rattle.ck_types.specs.declared.rv.Rv.TheVariants.{Ok}
use Rattle.ck_types.specs.declared.session_state.SessionState.{SessionState}
use Rattle.ck_calls.specs.declared.function.Function.TheVariants.{CreateObject}
use Rattle.ck_calls.specs.declared.reply.Reply.TheVariants.{Object}
use Rattle.attrs.specs.Objects.{flag}
use Rattle.attrs.specs.MaskingLaws.{flag-mask}
use Rattle.guard.specs.Access.{is_rw, is_visible}
use Rattle.guard.specs.AccessLaws.{is_visible-mask}
use Rattle.templates.specs.declared.making.Making.TheVariants.{Create}
use Rattle.templates.specs.Faults.{template_fault}
use Rattle.templates.specs.Made.{object_made, given_value}
use Rattle.precede.specs.declared.condition.Condition.TheVariants.{NoSession, TemplateRefused, TokenObjectReadOnly, PrivateObject, ObjectLimit}
use Rattle.lists.proofs.ListLemmas.{map-push, length-map}
use Rattle.model_views.specs.Views.{TokenObject, SessionObject}
use Rattle.model_views.specs.Changes.{Stays, Insert}
use Rattle.model_views.specs.Answering.{Replies}
use Rattle.model_views.specs.Checked.{state_in, made_by}
use Rattle.model_answers.specs.CreateObject.{adds_token_object, adds_session_object, adds, makes_row, makes_says, create_row, creates, create_object}
use Rattle.model_views.proofs.Blind.{IsPlainFault}
use Rattle.model_answers.proofs.Templates.{fault-plain}
use Rattle.model_views.proofs.Checks.{Entry, mask_object, Condition, View, mask, mask_token_object, mask_session_object, Answer, shown, tokens-twice, own-twice, sessions-twice, question-twice, record-twice, IsProper, IsFair, blind-if, blind-refusal, fair, fair-if, fair-refusal, blind-row, fair-row, blind-checked_by, fair-checked_by, row-session, state-mask}

blind-token_object : (v : View) (o : List Entry) → shown (adds_token_object (mask v) o) ≡ shown (adds_token_object v o)
blind-token_object v o =
    rw (
      own-twice v.own,
      sessions-twice v.sessions.sessions,
      question-twice v.question,
      record-twice v.token_record,
      map-push mask_token_object (map mask_token_object v.tokens) (record { object = o; handle = Some v.next_handle }),
      tokens-twice v.tokens,
      map-push mask_token_object v.tokens (record { object = o; handle = Some v.next_handle }),
    ) refl

blind-session_object : (v : View) (s : ℕ) (o : List Entry) → shown (adds_session_object (mask v) s o) ≡ shown (adds_session_object v s o)
blind-session_object v s o =
    rw (
      tokens-twice v.tokens,
      sessions-twice v.sessions.sessions,
      question-twice v.question,
      record-twice v.token_record,
      map-push mask_session_object (map mask_session_object v.own) (record { object = o; handle = v.next_handle; session = s }),
      own-twice v.own,
      map-push mask_session_object v.own (record { object = o; handle = v.next_handle; session = s }),
    ) refl

-- objects that are revealed alike
module _ (x y : List Entry) (same : mask_object x ≡ mask_object y) where
  same-flag : (t : AttrType) → attr_type_number t ≢ attr_type_number attr.Value → flag x t ≡ flag y t
  same-flag t other = sym (flag-mask x t other) ∙ ap (λ o. flag o t) same ∙ flag-mask y t other

  same-visible : (state : SessionState) → is_visible state x ≡ is_visible state y
  same-visible state = sym (is_visible-mask state x) ∙ ap (is_visible state) same ∙ is_visible-mask state y

  same-token_object : (v : View) → shown (adds_token_object v x) ≡ shown (adds_token_object v y)
  same-token_object v =
      let object : List Entry → TokenObject = λ o. record { object = o; handle = Some v.next_handle } in
      let f : List Entry → Answer =
      λ o. record {
        says = Replies (Object v.next_handle);
        view = record (mask v) { tokens = map mask_token_object v.tokens ++ object o ∷ []; next_handle = v.next_handle + 1 };
        change = Insert o;
      } in
      rw (map-push mask_token_object v.tokens (object x), map-push mask_token_object v.tokens (object y)) (ap f same)

  same-session_object : (v : View) (s : ℕ) → shown (adds_session_object v s x) ≡ shown (adds_session_object v s y)
  same-session_object v s =
      let object : List Entry → SessionObject = λ o. record { object = o; handle = v.next_handle; session = s } in
      let f : List Entry → Answer =
      λ o. record {
        says = Replies (Object v.next_handle);
        view = record (mask v) { own = map mask_session_object v.own ++ object o ∷ []; next_handle = v.next_handle + 1 };
        change = Stays;
      } in
      rw (map-push mask_session_object v.own (object x), map-push mask_session_object v.own (object y)) (ap f same)

  pub blind-adds : (v : View) (s : ℕ) → shown (adds (mask v) s x) ≡ shown (adds v s y)
  blind-adds v s =
      blind-if (flag x attr.Token) (flag y attr.Token) (adds_token_object (mask v) x) (adds_token_object v y)
      (adds_session_object (mask v) s x) (adds_session_object v s y)
      (same-flag attr.Token (λ e. absurd (omega (arith, e)))) (blind-token_object v x ∙ same-token_object v)
      (blind-session_object v s x ∙ same-session_object v s)

  pub makes-mask : (v : View) (state : SessionState) (fault : Option Rv) (row : Condition)
      → makes_row (mask v) state fault x row ≡ makes_row v state fault y row
  makes-mask v state fault TemplateRefused = refl
  makes-mask v state fault TokenObjectReadOnly = ap (λ b. b && not (is_rw state)) (same-flag attr.Token (λ e. absurd (omega (arith, e))))
  makes-mask v state fault PrivateObject = ap not (same-visible state)
  makes-mask v state fault ObjectLimit =
      ap (λ b. not b && nat_le MAX_SESSION_OBJECTS (length (map mask_session_object v.own)))
      (same-flag attr.Token (λ e. absurd (omega (arith, e))))
      ∙ ap (λ n. not (flag y attr.Token) && nat_le MAX_SESSION_OBJECTS n) (length-map mask_session_object v.own)
  makes-mask v state fault _ = refl

  create-mask : (v : View) (s : ℕ) (fault : Option Rv) (row : Condition) → create_row (mask v) s fault x row ≡ create_row v s fault y row
  create-mask v s fault NoSession = row-session v s
  create-mask v s fault row = ap (λ state. makes_row (mask v) state fault x row) (state-mask v s) ∙ makes-mask v (state_in v s) fault row

pub makes-told : (v : View) (fault : Option Rv) (row : Condition) → shown (makes_says (mask v) fault row) ≡ shown (makes_says v fault row)
makes-told v None TemplateRefused = blind-refusal v Ok
makes-told v (Some code) TemplateRefused = blind-refusal v code
makes-told v fault row = blind-row v row

pub makes-fair : {quiet : Bool} (v : View) (fault : Option Rv) → IsPlainFault fault → (row : Condition)
    → IsFair quiet v (makes_says v fault row)
makes-fair v None plain TemplateRefused = fair-refusal v Ok refl
makes-fair v (Some code) plain TemplateRefused = fair-refusal v code plain.plain
makes-fair v fault plain row = fair-row v row

pub fair-adds : (v : View) (s : ℕ) (o : List Entry) → IsFair false v (adds v s o)
fair-adds v s o = fair-if v (flag o attr.Token) {x = adds_token_object v o} {y = adds_session_object v s o}
    (record { plain = refl; still = λ q. absurd (false≢true q); asks = refl; shows = refl; charges = refl; seats = λ k. cc })
    (fair v {a = adds_session_object v s o} refl refl refl refl refl)

blind-creates : (v : View) (s : ℕ) (fault : Option Rv) (o : List Entry) → shown (creates (mask v) s fault o) ≡ shown (creates v s fault o)
blind-creates v s fault o =
    blind-checked_by CreateObject (create_row (mask v) s fault o) (create_row v s fault o) (makes_says (mask v) fault)
    (makes_says v fault) (adds (mask v) s o) (adds v s o) (create-mask o o refl v s fault) (makes-told v fault)
    (blind-adds o o refl v s)

pub proper-create_object : (s : ℕ) (template : List Entry) (random : List ℕ) → IsProper (λ v r. create_object v s template random) false
proper-create_object s template random =
    let fault : View → Option Rv = λ v. template_fault Create (state_in v s) [] template in
    let made : Option Rv → List Entry = λ f. made_by f (object_made Create [] template random (given_value template)) in
    record {
      blind = λ v r. ap (λ state. let f = template_fault Create state [] template in shown (creates (mask v) s f (made f)))
          (state-mask v s) ∙ blind-creates v s (fault v) (made (fault v));
      fair = λ v r. fair-checked_by CreateObject v (create_row v s (fault v) (made (fault v))) (makes_says v (fault v))
          (adds v s (made (fault v))) (makes-fair v (fault v) (fault-plain Create (state_in v s) [] template))
          (fair-adds v s (made (fault v)));
    }
