-- C_SetAttributeValue.
use Rattle.std.proofs.Common.{zero, suc, true, cond, ◌≡◌, ℕ, Bool, false, not, List, [], ◌∷◌, map, Option, Some, None, refl, ◌∙◌, ap, arith}
use Rattle.std.specs.Prelude.{◌==◌}
use Rattle.std.specs.Option.{unwrap_or, option_map}
use Rattle.std.proofs.lemmas.Bool.{false≢true}
use Rattle.ck_types.specs.declared.attr_type.AttrType.TheVariants as attr
use Rattle.ck_types.specs.declared.rv.Rv.{Rv}
use Rattle.ck_types.specs.declared.session_state.SessionState.{SessionState}
use Rattle.ck_calls.specs.declared.function.Function.TheVariants.{SetAttributeValue}
use Rattle.attrs.specs.MaskingLaws.{mask-mask}
use Rattle.templates.specs.declared.making.Making.TheVariants.{Set}
use Rattle.templates.specs.Faults.{template_fault}
use Rattle.templates.specs.Made.{object_made}
use Rattle.templates.proofs.Blind.{fault-mask, made-mask}
use Rattle.precede.specs.declared.condition.Condition.TheVariants.{NoSession, NoObject, TokenObjectReadOnly, NotModifiable}
use Rattle.model_views.specs.Views.{TokenObject, SessionObject}
use Rattle.model_views.specs.Changes.{rewritten}
use Rattle.model_views.specs.Checked.{state_in, made_by}
use Rattle.model_answers.specs.CreateObject.{makes_says}
use Rattle.model_answers.specs.SetAttributeValue.{rewritten_own, puts_object, set_row, sets_attributes, sets_in, set_attribute_value}
use Rattle.model_answers.proofs.Templates.{fault-plain}
use Rattle.model_answers.proofs.Proper.CreateObject.{makes-told, makes-fair}
use Rattle.model_views.proofs.Checks.{Entry, mask_object, Condition, View, mask, mask_token_object, mask_session_object, shown, object_at, index_of, tokens-twice, own-twice, sessions-twice, question-twice, record-twice, object-mask, index-mask, IsProper, IsFair, fair, blind-checked_by, fair-checked_by, row-session, none-masked, flag-masked, state-mask}

-- objects that are revealed alike are put at one index
module _ (x y : List Entry) (same : mask_object x ≡ mask_object y) where
  rewritten-shown : (ts : List TokenObject) (index : ℕ)
      → map mask_token_object (rewritten (map mask_token_object ts) index x) ≡ map mask_token_object (rewritten ts index y)
  rewritten-shown [] index = refl
  rewritten-shown (t ∷ ts) zero =
      let f : List Entry → List TokenObject → List TokenObject = λ o os. record { object = o; handle = t.handle } ∷ os in
      ap (λ o. f o (map mask_token_object (map mask_token_object ts))) same ∙ ap (f (mask_object y)) (tokens-twice ts)
  rewritten-shown (t ∷ ts) (suc index) =
      let f : List Entry → List TokenObject → List TokenObject = λ o os. record { object = o; handle = t.handle } ∷ os in
      ap (λ o. f o (map mask_token_object (rewritten (map mask_token_object ts) index x))) (mask-mask t.object)
      ∙ ap (f (mask_object t.object)) (rewritten-shown ts index)

  rewritten_own-shown : (es : List SessionObject) (handle : ℕ)
      → map mask_session_object (rewritten_own (map mask_session_object es) handle x) ≡ map mask_session_object (rewritten_own es handle y)
  rewritten_own-shown [] handle = refl
  rewritten_own-shown (e ∷ es) handle = step (e.handle == handle) (rewritten_own-shown es handle) where
    step : (b : Bool) → map mask_session_object (rewritten_own (map mask_session_object es) handle x)
        ≡ map mask_session_object (rewritten_own es handle y)
        → map mask_session_object (cond b
        (record { object = x; handle = e.handle; session = e.session } ∷ map mask_session_object es)
        (mask_session_object e ∷ rewritten_own (map mask_session_object es) handle x))
        ≡ map mask_session_object (cond b (record { object = y; handle = e.handle; session = e.session } ∷ es)
        (e ∷ rewritten_own es handle y))
    step true rest =
        let f : List Entry → List SessionObject → List SessionObject =
        λ o os. record { object = o; handle = e.handle; session = e.session } ∷ os in
        ap (λ o. f o (map mask_session_object (map mask_session_object es))) same ∙ ap (f (mask_object y)) (own-twice es)
    step false rest =
        let f : List Entry → List SessionObject → List SessionObject =
        λ o os. record { object = o; handle = e.handle; session = e.session } ∷ os in
        ap (λ o. f o (map mask_session_object (rewritten_own (map mask_session_object es) handle x))) (mask-mask e.object)
        ∙ ap (f (mask_object e.object)) rest

  blind-puts : (v : View) (handle : ℕ) (index : Option ℕ) → shown (puts_object (mask v) handle x index) ≡ shown (puts_object v handle y index)
  blind-puts v handle None =
      rw (
        tokens-twice v.tokens,
        sessions-twice v.sessions.sessions,
        question-twice v.question,
        record-twice v.token_record,
        rewritten_own-shown v.own handle,
      ) refl
  blind-puts v handle (Some index) =
      rw (
        own-twice v.own,
        sessions-twice v.sessions.sessions,
        question-twice v.question,
        record-twice v.token_record,
        rewritten-shown v.tokens index,
        same,
      ) refl

set-mask : (v : View) (s : ℕ) (o : Option (List Entry)) (fault : Option Rv) (row : Condition)
    → set_row (mask v) s (option_map mask_object o) fault row ≡ set_row v s o fault row
set-mask v s o fault NoSession = row-session v s
set-mask v s o fault NoObject = none-masked o
set-mask v s o fault TokenObjectReadOnly = rw (flag-masked o attr.Token (λ e. absurd (omega (arith, e))), state-mask v s) refl
set-mask v s o fault NotModifiable = ap not (flag-masked o attr.Modifiable (λ e. absurd (omega (arith, e))))
set-mask v s o fault _ = refl

abbrev set_of : Option Rv → List Entry → List Entry → List Entry
set_of fault o template = made_by fault (object_made Set o template [] [])

-- what is made of the object is revealed alike
same-set : (state : SessionState) (o template : List Entry) (fault : Option Rv) → template_fault Set state o template ≡ fault
    → mask_object (set_of fault (mask_object o) template) ≡ mask_object (set_of fault o template)
same-set state o template (Some code) is = refl
same-set state o template None is = made-mask Set refl state o template [] is

blind-with : (v : View) (s handle : ℕ) (o : Option (List Entry)) (fault : Option Rv) (x y : List Entry)
    → mask_object x ≡ mask_object y → shown (sets_attributes (mask v) s handle (option_map mask_object o) fault x) ≡ shown (sets_attributes v s handle o fault y)
blind-with v s handle o fault x y same =
    blind-checked_by SetAttributeValue (set_row (mask v) s (option_map mask_object o) fault) (set_row v s o fault)
    (makes_says (mask v) fault) (makes_says v fault) (puts_object (mask v) handle x (index_of (mask v).tokens handle))
    (puts_object v handle y (index_of v.tokens handle))
    (set-mask v s o fault) (makes-told v fault)
    (ap (λ p. shown (puts_object (mask v) handle x p)) (index-mask v handle) ∙ blind-puts x y same v handle (index_of v.tokens handle))

blind-sets : (template : List Entry) (v : View) (s handle : ℕ) (o : Option (List Entry))
    → shown (sets_in (mask v) s handle (option_map mask_object o) template) ≡ shown (sets_in v s handle o template)
blind-sets template v s handle None =
    ap (λ state. let f = template_fault Set state [] template in shown (sets_attributes (mask v) s handle None f (set_of f [] template)))
    (state-mask v s)
    ∙ (let f = template_fault Set (state_in v s) [] template in
    blind-with v s handle None f (set_of f [] template) (set_of f [] template) refl)
blind-sets template v s handle (Some o) =
    let m = mask_object o in
    let f = template_fault Set (state_in v s) o template in
    ap (λ state. let g = template_fault Set state m template in shown (sets_attributes (mask v) s handle (Some m) g (set_of g m template)))
    (state-mask v s)
    ∙ ap (λ g. shown (sets_attributes (mask v) s handle (Some m) g (set_of g m template))) (fault-mask Set refl (state_in v s) o template)
    ∙ blind-with v s handle (Some o) f (set_of f m template) (set_of f o template) (same-set (state_in v s) o template f refl)

fair-puts : (v : View) (handle : ℕ) (o : List Entry) (index : Option ℕ) → IsFair false v (puts_object v handle o index)
fair-puts v handle o None = fair v {a = puts_object v handle o None} refl refl refl refl refl
fair-puts v handle o (Some index) =
    record { plain = refl; still = λ q. absurd (false≢true q); asks = refl; shows = refl; charges = refl; seats = λ k. cc }

fair-sets : (template : List Entry) (v : View) (s handle : ℕ) (o : Option (List Entry)) → IsFair false v (sets_in v s handle o template)
fair-sets template v s handle o =
    let f = template_fault Set (state_in v s) (unwrap_or o []) template in
    let x = set_of f (unwrap_or o []) template in
    fair-checked_by SetAttributeValue v (set_row v s o f) (makes_says v f) (puts_object v handle x (index_of v.tokens handle))
    (makes-fair v f (fault-plain Set (state_in v s) (unwrap_or o []) template)) (fair-puts v handle x (index_of v.tokens handle))

pub proper-set_attribute_value : (s handle : ℕ) (template : List Entry) → IsProper (λ v r. set_attribute_value v s handle template) false
proper-set_attribute_value s handle template = record {
  blind = λ v r. ap (λ o. shown (sets_in (mask v) s handle o template)) (object-mask v handle)
      ∙ blind-sets template v s handle (object_at v handle);
  fair = λ v r. fair-sets template v s handle (object_at v handle);
}
