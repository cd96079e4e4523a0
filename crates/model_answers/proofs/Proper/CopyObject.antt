-- C_CopyObject.
use Rattle.std.proofs.Common.{◌≡◌, ℕ, false, not, List, [], Option, Some, None, refl, ◌∙◌, ap, arith}
use Rattle.std.specs.Option.{unwrap_or, option_map}
use Rattle.ck_types.specs.declared.attr_type.AttrType.TheVariants as attr
use Rattle.ck_types.specs.declared.rv.Rv.{Rv}
use Rattle.ck_types.specs.declared.session_state.SessionState.{SessionState}
use Rattle.ck_calls.specs.declared.function.Function.TheVariants.{CopyObject}
use Rattle.templates.specs.declared.making.Making.TheVariants.{Copy}
use Rattle.templates.specs.Faults.{template_fault}
use Rattle.templates.specs.Made.{object_made}
use Rattle.templates.proofs.Blind.{fault-mask, made-mask}
use Rattle.precede.specs.declared.condition.Condition.TheVariants.{NoSession, NoObject, NotCopyable}
use Rattle.model_views.specs.Checked.{state_in, made_by}
use Rattle.model_answers.specs.CreateObject.{makes_row, makes_says, adds}
use Rattle.model_answers.specs.CopyObject.{copy_row, copies, copies_of, copy_object}
use Rattle.model_answers.proofs.Templates.{fault-plain}
use Rattle.model_answers.proofs.Proper.CreateObject.{blind-adds, makes-mask, makes-told, makes-fair, fair-adds}
use Rattle.model_views.proofs.Checks.{Entry, mask_object, Condition, View, mask, shown, object_at, object-mask, IsProper, IsFair, blind-checked_by, fair-checked_by, row-session, none-masked, flag-masked, state-mask}

copy-mask : (x y : List Entry) → mask_object x ≡ mask_object y
    → (v : View) (s : ℕ) (o : Option (List Entry)) (fault : Option Rv) (row : Condition)
    → copy_row (mask v) s (option_map mask_object o) fault x row ≡ copy_row v s o fault y row
copy-mask x y same v s o fault NoSession = row-session v s
copy-mask x y same v s o fault NoObject = none-masked o
copy-mask x y same v s o fault NotCopyable = ap not (flag-masked o attr.Copyable (λ e. absurd (omega (arith, e))))
copy-mask x y same v s o fault row = ap (λ state. makes_row (mask v) state fault x row) (state-mask v s)
    ∙ makes-mask x y same v (state_in v s) fault row

abbrev copy_of : Option Rv → List Entry → List Entry → List ℕ → List Entry
copy_of fault o template random = made_by fault (object_made Copy o template random [])

-- what is made of the object is revealed alike
same-copy : (state : SessionState) (o template : List Entry) (random : List ℕ) (fault : Option Rv)
    → template_fault Copy state o template ≡ fault
    → mask_object (copy_of fault (mask_object o) template random) ≡ mask_object (copy_of fault o template random)
same-copy state o template random (Some code) is = refl
same-copy state o template random None is = made-mask Copy refl state o template random is

blind-with : (v : View) (s : ℕ) (o : Option (List Entry)) (fault : Option Rv) (x y : List Entry) → mask_object x ≡ mask_object y
    → shown (copies (mask v) s (option_map mask_object o) fault x) ≡ shown (copies v s o fault y)
blind-with v s o fault x y same =
    blind-checked_by CopyObject (copy_row (mask v) s (option_map mask_object o) fault x) (copy_row v s o fault y)
    (makes_says (mask v) fault) (makes_says v fault) (adds (mask v) s x) (adds v s y) (copy-mask x y same v s o fault)
    (makes-told v fault) (blind-adds x y same v s)

blind-copies : (template : List Entry) (random : List ℕ) (v : View) (s : ℕ) (o : Option (List Entry))
    → shown (copies_of (mask v) s (option_map mask_object o) template random) ≡ shown (copies_of v s o template random)
blind-copies template random v s None =
    ap (λ state. let f = template_fault Copy state [] template in shown (copies (mask v) s None f (copy_of f [] template random)))
    (state-mask v s)
    ∙ (let f = template_fault Copy (state_in v s) [] template in
    blind-with v s None f (copy_of f [] template random) (copy_of f [] template random) refl)
blind-copies template random v s (Some o) =
    let m = mask_object o in
    let f = template_fault Copy (state_in v s) o template in
    ap (λ state. let g = template_fault Copy state m template in shown (copies (mask v) s (Some m) g (copy_of g m template random)))
    (state-mask v s)
    ∙ ap (λ g. shown (copies (mask v) s (Some m) g (copy_of g m template random))) (fault-mask Copy refl (state_in v s) o template)
    ∙ blind-with v s (Some o) f (copy_of f m template random) (copy_of f o template random)
    (same-copy (state_in v s) o template random f refl)

fair-copies : (template : List Entry) (random : List ℕ) (v : View) (s : ℕ) (o : Option (List Entry))
    → IsFair false v (copies_of v s o template random)
fair-copies template random v s o =
    let f = template_fault Copy (state_in v s) (unwrap_or o []) template in
    let x = copy_of f (unwrap_or o []) template random in
    fair-checked_by CopyObject v (copy_row v s o f x) (makes_says v f) (adds v s x)
    (makes-fair v f (fault-plain Copy (state_in v s) (unwrap_or o []) template)) (fair-adds v s x)

pub proper-copy_object : (s handle : ℕ) (template : List Entry) (random : List ℕ)
    → IsProper (λ v r. copy_object v s handle template random) false
proper-copy_object s handle template random = record {
  blind = λ v r. ap (λ o. shown (copies_of (mask v) s o template random)) (object-mask v handle)
      ∙ blind-copies template random v s (object_at v handle);
  fair = λ v r. fair-copies template random v s (object_at v handle);
}
