-- C_UnwrapKey: the pending call, and its result.
use Rattle.std.proofs.Common.{◌≡◌, ◌-◌, ◌^◌, ℕ, Bool, true, false, cond, not, List, [], ◌∷◌, length, Option, Some, None, refl, ◌∙◌, ap, arith}
use Rattle.std.specs.Prelude.{◌&&◌, is_some, nat_lt}
use Rattle.std.specs.Option.{unwrap_or, option_map}
use Rattle.ck_types.specs.declared.attr_type.AttrType.TheVariants as attr
use Rattle.ck_types.specs.declared.rv.Rv.{Rv}
use Rattle.ck_types.specs.declared.rv.Rv.TheVariants.{FunctionFailed, WrappedKeyInvalid}
use Rattle.ck_types.specs.declared.session_state.SessionState.{SessionState}
use Rattle.ck_calls.specs.declared.fields.Mechanism.{Mechanism}
use Rattle.ck_calls.specs.declared.function.Function.TheVariants as functions
use Rattle.attrs.specs.Masking.{mask as masked_object}
use Rattle.attrs.specs.MaskingLaws.{mask-mask}
use Rattle.attrs.specs.Objects.{attribute_of, flag}
use Rattle.templates.specs.declared.making.Making.TheVariants.{Unwrap}
use Rattle.templates.specs.Faults.{template_fault}
use Rattle.precede.specs.declared.condition.Condition.TheVariants.{NoSession, WrongMechanism, WrongParameter, NoUnwrappingKey, WrongUnwrappingKeyType, KeyNotPermitted, WrappedLength, TemplateRefused, WrappedLengthOfType}
use Rattle.precede.specs.Table.{write}
use Rattle.sessions.specs.declared.Session.{Session}
use Rattle.ops.specs.Operations.{Operations}
use Rattle.pin_record.specs.Records.{TokenRecord}
use Rattle.model_views.specs.Changes.{recorded}
use Rattle.model_views.specs.TaskResults.{TaskResult, Unwrapped, BadWrapping, mask_outcome}
use Rattle.model_views.specs.Views.{UnwrapsKey}
use Rattle.model_views.specs.Answering.{Answer, asks, answered, refuses}
use Rattle.model_views.specs.Checked.{by_rows, state_in, is_aes}
use Rattle.model_views.proofs.Blind.{blind-asks, IsPlainFault}
use Rattle.model_answers.specs.CreateObject.{makes_row, adds, adds_token_object, adds_session_object, adds_where}
use Rattle.model_answers.specs.UnwrapKey.{key_ahead, template_row, unwrap_row, unwrap_says, unwraps, unwrap_key, may_add, unwrapped_result}
use Rattle.model_session_answers.proofs.Over.{IsOver, over-if, over-refused}
use Rattle.model_answers.proofs.Templates.{fault-plain}
use Rattle.model_answers.proofs.Proper.OperationInit.{type-masked}
use Rattle.model_answers.proofs.Proper.CreateObject.{blind-adds, makes-mask, makes-told, makes-fair}
use Rattle.model_answers.proofs.Proper.WrapKey.{no_key-mask}
use Rattle.model_views.proofs.Checks.{Entry, mask_object, Condition, View, mask, mask_session, shown, refuses_by, session_of, session-mask, object_at, object-mask, IsProper, IsFair, blind-refusal, blind-if, fair, blind-row, blind-rows, fair-row, plain-row, blind-checked_by, fair-checked_by, row-session, state-mask, flag-masked}

template-mask : (v : View) (state : SessionState) (fault : Option Rv) (o : List Entry) (row : Condition)
    → template_row (mask v) state fault o row ≡ template_row v state fault o row
template-mask v state fault o TemplateRefused = refl
template-mask v state fault o WrappedLengthOfType = refl
template-mask v state fault o row = makes-mask o o refl v state fault row

module _ (v : View) (s : ℕ) (m : Mechanism) (wrapped : List ℕ) (template : List Entry) (random : List ℕ) where
  row-mask : (key : Option (List Entry)) (fault : Option Rv) (o : List Entry) (row : Condition)
      → unwrap_row (mask v) s m (option_map mask_object key) wrapped fault o row ≡ unwrap_row v s m key wrapped fault o row
  row-mask key fault o NoSession = row-session v s
  row-mask key fault o WrongMechanism = refl
  row-mask key fault o WrongParameter = refl
  row-mask key fault o NoUnwrappingKey = no_key-mask key
  row-mask key fault o WrongUnwrappingKeyType = ap (λ t. not (is_aes t)) (type-masked key)
  row-mask key fault o KeyNotPermitted = ap not (flag-masked key attr.Unwrap (λ e. absurd (omega (arith, e))))
  row-mask key fault o WrappedLength = refl
  row-mask key fault o row = ap (λ state. template_row (mask v) state fault o row) (state-mask v s)
      ∙ template-mask v (state_in v s) fault o row

  blind-says : (fault : Option Rv) (row : Condition) → shown (unwrap_says (mask v) fault row) ≡ shown (unwrap_says v fault row)
  blind-says fault TemplateRefused = makes-told v fault TemplateRefused
  blind-says fault row = blind-row v row

  -- the pending call is revealed without the value of its key
  blind-unwraps : (key : Option (List Entry)) (state : SessionState) (fault : Option Rv)
      → shown (unwraps (mask v) s m (option_map mask_object key) wrapped template random state fault)
      ≡ shown (unwraps v s m key wrapped template random state fault)
  blind-unwraps key state fault =
      let o = key_ahead template random (length wrapped - 8) in
      let task = UnwrapsKey (attribute_of (unwrap_or key []) attr.Value) wrapped state template random in
      let masked = UnwrapsKey (attribute_of (unwrap_or (option_map mask_object key) []) attr.Value) wrapped state template random in
      blind-checked_by functions.UnwrapKey (unwrap_row (mask v) s m (option_map mask_object key) wrapped fault o)
      (unwrap_row v s m key wrapped fault o) (unwrap_says (mask v) fault) (unwrap_says v fault)
      (asks (mask v) functions.UnwrapKey s masked) (asks v functions.UnwrapKey s task)
      (row-mask key fault o) (blind-says fault) (blind-asks v functions.UnwrapKey s masked task refl)

  fair-says : {quiet : Bool} (fault : Option Rv) → IsPlainFault fault → (row : Condition) → IsFair quiet v (unwrap_says v fault row)
  fair-says fault plain TemplateRefused = makes-fair v fault plain TemplateRefused
  fair-says fault plain row = fair-row v row

pub fair-unwraps : {quiet : Bool} (v : View) (s : ℕ) (m : Mechanism) (key : Option (List Entry)) (wrapped : List ℕ)
    (template : List Entry) (random : List ℕ)
    → IsFair quiet v (unwraps v s m key wrapped template random (state_in v s)
    (template_fault (Unwrap (length wrapped - 8)) (state_in v s) [] template))
fair-unwraps v s m key wrapped template random =
    let call = Unwrap (length wrapped - 8) in
    let fault = template_fault call (state_in v s) [] template in
    let a = asks v functions.UnwrapKey s (UnwrapsKey (attribute_of (unwrap_or key []) attr.Value) wrapped (state_in v s) template random) in
    fair-checked_by functions.UnwrapKey v (unwrap_row v s m key wrapped fault (key_ahead template random (length wrapped - 8)))
    (unwrap_says v fault) a
    (fair-says v s m wrapped template random fault (fault-plain call (state_in v s) [] template)) (fair v {a = a} refl refl refl refl refl)

pub proper-unwrap_key : (s : ℕ) (m : Mechanism) (key : ℕ) (wrapped : List ℕ) (template : List Entry) (random : List ℕ)
    → IsProper (λ v r. unwrap_key v s m key wrapped template random) false
proper-unwrap_key s m key wrapped template random =
    let call = Unwrap (length wrapped - 8) in
    record {
      blind = λ v r.
          ap (λ state. shown (unwraps (mask v) s m (object_at (mask v) key) wrapped template random state
          (template_fault call state [] template))) (state-mask v s)
          ∙ ap (λ o. shown (unwraps (mask v) s m o wrapped template random (state_in v s)
          (template_fault call (state_in v s) [] template))) (object-mask v key)
          ∙ blind-unwraps v s m wrapped template random (object_at v key) (state_in v s) (template_fault call (state_in v s) [] template);
      fair = λ v r. fair-unwraps v s m (object_at v key) wrapped template random;
    }

-- ---- the result

may-mask : (v : View) (s : ℕ) → may_add (mask v) s ≡ may_add v s
may-mask v s = ap (λ b. b && nat_lt v.next_handle (2 ^ 63)) (ap is_some (session-mask v s) ∙ of (session_of v s)) where
  of : (o : Option (Session Operations)) → is_some (option_map mask_session o) ≡ is_some o
  of None = refl
  of (Some x) = refl

-- of an object that is revealed alike
blind-where : (v : View) (s : ℕ) (x y : List Entry) → mask_object x ≡ mask_object y
    → shown (adds_where (mask v) s (state_in (mask v) s) x) ≡ shown (adds_where v s (state_in v s) y)
blind-where v s x y same =
    ap (λ state. shown (adds_where (mask v) s state x)) (state-mask v s)
    ∙ blind-rows write (makes_row (mask v) (state_in v s) None x) (makes_row v (state_in v s) None y) (refuses_by (mask v))
    (refuses_by v) (adds (mask v) s x) (adds v s y)
    (makes-mask x y same v (state_in v s) None) (blind-row v) (blind-adds x y same v s)

pub blind-unwrapped : (v : View) (s : ℕ) (outcome : TaskResult)
    → shown (unwrapped_result (answered (mask v)) s (mask_outcome outcome)) ≡ shown (unwrapped_result (answered v) s outcome)
blind-unwrapped v s (Unwrapped o) =
    blind-if (may_add (answered (mask v)) s) (may_add (answered v) s) _ _ _ _ (may-mask (answered v) s)
    (blind-where (answered v) s (masked_object o) o (mask-mask o))
    (blind-refusal (answered v) FunctionFailed)
blind-unwrapped v s BadWrapping = blind-refusal (answered v) WrappedKeyInvalid
blind-unwrapped v s _ = blind-refusal (answered v) FunctionFailed

over-row : (v : View) (row : Condition) → IsOver v (refuses_by (answered v) row)
over-row v row = over-refused v _ (plain-row row)

over-rows : (v : View) (rows : List Condition) (h : Condition → Bool) (a : Answer) → IsOver v a
    → IsOver v (by_rows rows h (refuses_by (answered v)) a)
over-rows v [] h a is = is
over-rows v (row ∷ rows) h a is = over-if v (h row) (over-row v row) (over-rows v rows h a is)

over-adds : (v : View) (s : ℕ) (o : List Entry) → IsOver v (adds (answered v) s o)
over-adds v s o =
    over-if v (flag o attr.Token) {x = adds_token_object (answered v) o} {y = adds_session_object (answered v) s o}
    (record { plain = refl; unasking = refl; over = refl; shows = refl })
    (record { plain = refl; unasking = refl; over = refl; shows = refl })

pub over-unwrapped : (v : View) (s : ℕ) (outcome : TaskResult) → IsOver v (unwrapped_result (answered v) s outcome)
over-unwrapped v s (Unwrapped o) =
    over-if v (may_add (answered v) s)
    (over-rows v write (makes_row (answered v) (state_in v s) None o) (adds (answered v) s o) (over-adds v s o))
    (over-refused v FunctionFailed refl)
over-unwrapped v s BadWrapping = over-refused v WrappedKeyInvalid refl
over-unwrapped v s _ = over-refused v FunctionFailed refl

-- the record stays
record-rows : (v : View) (rows : List Condition) (h : Condition → Bool) (a : Answer) (old : TokenRecord)
    → recorded a.change old ≡ old → recorded (by_rows rows h (refuses_by v) a).change old ≡ old
record-rows v [] h a old is = is
record-rows v (row ∷ rows) h a old is = step (h row) (record-rows v rows h a old is) where
  step : (b : Bool) → recorded (by_rows rows h (refuses_by v) a).change old ≡ old
      → recorded (cond b (refuses_by v row) (by_rows rows h (refuses_by v) a)).change old ≡ old
  step true rest = refl
  step false rest = rest

pub record-unwrapped : (v : View) (s : ℕ) (outcome : TaskResult) (old : TokenRecord)
    → recorded (unwrapped_result v s outcome).change old ≡ old
record-unwrapped v s (Unwrapped o) old = may (may_add v s) where
  added : (b : Bool) → recorded (cond b (adds_token_object v o) (adds_session_object v s o)).change old ≡ old
  added true = refl
  added false = refl

  may : (b : Bool) → recorded (cond b (adds_where v s (state_in v s) o) (refuses v FunctionFailed)).change old ≡ old
  may true = record-rows v write (makes_row v (state_in v s) None o) (adds v s o) old (added (flag o attr.Token))
  may false = refl
record-unwrapped v s BadWrapping old = refl
record-unwrapped v s _ old = refl
