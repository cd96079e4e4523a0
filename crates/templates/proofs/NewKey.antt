-- Where no condition holds, a new object is an object.
use Rattle.std.proofs.Common.{◌≡◌, ℕ, ◌<◌, ◌≤◌, ◌^◌, Bool, true, false, cond, ◌||◌, eqb, List, [], length, Option, Some, None, refl, sym, ap, subst, ◌∙◌, arith, lit<}
use Rattle.std.specs.Prelude.{unwrap_or, is_none}
use Rattle.std.specs.List.{list_any}
use Rattle.std.specs.Int.{w64, from_be_bytes}
use Rattle.std.proofs.lemmas.Bool.{eqb-true, le-leb, leb-true}
use Rattle.ck_types.specs.declared.entry.Entry.{Entry}
use Rattle.ck_types.specs.declared.attr_type.AttrType.TheVariants as attr
use Rattle.ck_types.specs.declared.mech_type.MechType.{MechType}
use Rattle.ck_types.specs.declared.object_class.ObjectClass.{ObjectClass}
use Rattle.ck_types.specs.declared.object_class.ObjectClass.TheVariants.{Data, SecretKey}
use Rattle.ck_types.specs.declared.key_type.KeyType.{KeyType}
use Rattle.ck_types.specs.declared.key_type.KeyType.TheVariants.{GenericSecret, Aes}
use Rattle.ck_types.specs.declared.session_state.SessionState.{SessionState}
use Rattle.ck_types.specs.Numbers.{attr_type_number, key_type_number}
use Rattle.attrs.specs.declared.table.Form.{Form}
use Rattle.attrs.specs.declared.table.Form.TheVariants.{Number, Bytes}
use Rattle.attrs.specs.Table.{attribute_table, rows_of}
use Rattle.attrs.specs.Objects.{attribute_of, class_of, class_at, number_of, key_type_of, key_type_at, is_key_len, IsObject, fits_rows, flag, is_true}
use Rattle.attrs.specs.ObjectLaws.{class_at-none, key_type_at-none}
use Rattle.templates.specs.declared.making.Making.TheVariants as making
use Rattle.ck_mechanisms.specs.Table.{mech_key_type as key_type_for}
use Rattle.templates.specs.Faults.{form_in, fits_form_of, is_ill_formed, is_other, is_of_other_class, is_missing, is_bad_len, len_of}
use Rattle.templates.specs.Made.{made_entries, truth, number_bytes, given_value, generated_len, asked_len}
use Rattle.templates.proofs.Entries.{both_false, not_false}
use Rattle.templates.proofs.Formed.{given_formed}
use Rattle.templates.proofs.NoFault.{IsFaultless, not_excluded, is_given, complete_at, listed_class, listed_type, number_again, number_formed, is_that, len_small}
use Rattle.templates.proofs.Whole.{made_fit, defaults_fit, is_data_object, is_key_object, key_value_is}

-- no object is copied
pub no_original : class_of [] ≡ None
no_original = class_at-none

-- ---- classes and key types by their numbers

class_secret : class_at (Some 4) ≡ Some SecretKey
unfolding class_at
class_secret = refl

type_again : (t : KeyType) → key_type_at (Some (key_type_number t)) ≡ Some t
unfolding key_type_at
type_again GenericSecret = refl
type_again Aes = refl

type_number_small : (t : KeyType) → key_type_number t < 2 ^ 64
type_number_small GenericSecret = lit< tt
type_number_small Aes = lit< tt

-- the number of a given class isn't another one: the made class is that of secret keys
class_chosen : (template : List Entry) → list_any is_ill_formed template ≡ false → is_of_other_class template ≡ false
    → class_at (number_of (Some (unwrap_or (attribute_of template attr.Class) (number_bytes 4)))) ≡ Some SecretKey
class_chosen template formed same =
    let step : (o : Option (List ℕ)) → attribute_of template attr.Class ≡ o → is_other (number_of o) 4 ≡ false
    → class_at (number_of (Some (unwrap_or o (number_bytes 4)))) ≡ Some SecretKey =
    λ o. elim o as (λ p. attribute_of template attr.Class ≡ p → is_other (number_of p) 4 ≡ false
    → class_at (number_of (Some (unwrap_or p (number_bytes 4)))) ≡ Some SecretKey) [
      | Some v ↦ λ e f.
          let there : number_of (Some v) ≡ None → ⊥ = λ none. listed_class template v formed e (ap class_at none ∙ class_at-none) in
          ap class_at (is_that 4 (number_of (Some v)) f there) ∙ class_secret
      | None ↦ λ e f. ap class_at (number_again 4 (lit< tt)) ∙ class_secret
    ] in
    step (attribute_of template attr.Class) refl same

-- a template that gives no other class gives that of secret keys, or none
data_is_other : (template : List Entry) → is_of_other_class template ≡ false → class_of template ≡ Some Data → ⊥
data_is_other template same data_class =
    let step : (o : Option ℕ) → is_other o 4 ≡ false → class_at o ≡ Some Data → ⊥ =
    λ o. elim o as (λ p. is_other p 4 ≡ false → class_at p ≡ Some Data → ⊥) [
      | None ↦ λ f e. let no : None ≡ Some Data = sym class_at-none ∙ e in cc
      | Some n ↦ λ f e. let no : Some SecretKey ≡ Some Data = sym class_secret
          ∙ ap (λ (m : ℕ). class_at (Some m)) (sym (eqb-true n 4 (not_false (eqb n 4) f))) ∙ e in cc
    ] in
    step (number_of (attribute_of template attr.Class)) same data_class

type_chosen : (template : List Entry) (t : KeyType) → list_any is_ill_formed template ≡ false
    → is_other (number_of (attribute_of template attr.KeyType)) (key_type_number t) ≡ false
    → key_type_at (number_of (Some (unwrap_or (attribute_of template attr.KeyType) (number_bytes (key_type_number t))))) ≡ Some t
type_chosen template t formed same =
    let step : (o : Option (List ℕ)) → attribute_of template attr.KeyType ≡ o → is_other (number_of o) (key_type_number t) ≡ false
    → key_type_at (number_of (Some (unwrap_or o (number_bytes (key_type_number t))))) ≡ Some t =
    λ o. elim o as (λ p. attribute_of template attr.KeyType ≡ p → is_other (number_of p) (key_type_number t) ≡ false
    → key_type_at (number_of (Some (unwrap_or p (number_bytes (key_type_number t))))) ≡ Some t) [
      | Some v ↦ λ e f.
          let there : number_of (Some v) ≡ None → ⊥ = λ none. listed_type template v formed e (ap key_type_at none ∙ key_type_at-none) in
          ap key_type_at (is_that (key_type_number t) (number_of (Some v)) f there) ∙ type_again t
      | None ↦ λ e f. ap key_type_at (number_again (key_type_number t) (type_number_small t)) ∙ type_again t
    ] in
    step (attribute_of template attr.KeyType) refl same

-- a given key type is one
type_given : (template : List Entry) (v : List ℕ) → list_any is_ill_formed template ≡ false
    → attribute_of template attr.KeyType ≡ Some v → (t : KeyType) × (key_type_at (number_of (Some v)) ≡ Some t)
type_given template v formed given =
    let step : (o : Option KeyType) → key_type_at (number_of (Some v)) ≡ o → (t : KeyType) × (key_type_at (number_of (Some v)) ≡ Some t) =
    λ o. elim o as (λ p. key_type_at (number_of (Some v)) ≡ p → (t : KeyType) × (key_type_at (number_of (Some v)) ≡ Some t)) [
      | Some t ↦ λ e. (t, e)
      | None ↦ λ e. absurd (listed_type template v formed given e)
    ] in
    step (key_type_at (number_of (Some v))) refl

-- ---- numbers that a template gives

value_len_form : form_in attribute_table (attr_type_number attr.ValueLen) ≡ Some Number
unfolding attribute_table
value_len_form = refl

value_len_number : (template : List Entry) (v : List ℕ) → list_any is_ill_formed template ≡ false
    → attribute_of template attr.ValueLen ≡ Some v → number_of (Some v) ≡ Some (from_be_bytes w64 v)
value_len_number template v formed given =
    number_formed v (subst (λ (f : Option Form). fits_form_of f v ≡ true) value_len_form
    (given_formed template (attr_type_number attr.ValueLen) v formed given))

len_chosen : (template : List Entry) (n : ℕ) → n < 2 ^ 64 → list_any is_ill_formed template ≡ false
    → is_other (number_of (attribute_of template attr.ValueLen)) n ≡ false
    → number_of (Some (unwrap_or (attribute_of template attr.ValueLen) (number_bytes n))) ≡ Some n
len_chosen template n lt formed same =
    let step : (o : Option (List ℕ)) → attribute_of template attr.ValueLen ≡ o → is_other (number_of o) n ≡ false
    → number_of (Some (unwrap_or o (number_bytes n))) ≡ Some n =
    λ o. elim o as (λ p. attribute_of template attr.ValueLen ≡ p → is_other (number_of p) n ≡ false
    → number_of (Some (unwrap_or p (number_bytes n))) ≡ Some n) [
      | Some v ↦ λ e f. is_that n (number_of (Some v)) f
          (λ none. let no : Some (from_be_bytes w64 v) ≡ None = sym (value_len_number template v formed e) ∙ none in cc)
      | None ↦ λ e f. number_again n lt
    ] in
    step (attribute_of template attr.ValueLen) refl same

-- ---- what a new key is made of

pub record HasParts (es : List Entry) (class type value len : List ℕ) : Type 0 where
  pub class_is : attribute_of es attr.Class ≡ Some class
  pub type_is : attribute_of es attr.KeyType ≡ Some type
  pub value_is : attribute_of es attr.Value ≡ Some value
  pub len_is : attribute_of es attr.ValueLen ≡ Some len

pub key_from_parts : (es : List Entry) (class type value len : List ℕ) (t : KeyType) → HasParts es class type value len
    → fits_rows (rows_of SecretKey) es ≡ true → class_at (number_of (Some class)) ≡ Some SecretKey
    → key_type_at (number_of (Some type)) ≡ Some t → is_key_len t (length value) ≡ true → number_of (Some len) ≡ Some (length value)
    → IsObject es
key_from_parts es class type value len t parts fits is_class is_type right is_len =
    is_key_object es (ap (λ (o : Option (List ℕ)). class_at (number_of o)) parts.class_is ∙ is_class) fits
    (key_value_is es t value (length value)
    (ap (λ (o : Option (List ℕ)). key_type_at (number_of o)) parts.type_is ∙ is_type) parts.value_is
    (ap number_of parts.len_is ∙ is_len) right refl)

parts_create : (template : List Entry) (random value : List ℕ)
    → HasParts (made_entries making.Create SecretKey [] template random value)
    (unwrap_or (attribute_of template attr.Class) (number_bytes 4))
    (unwrap_or (attribute_of template attr.KeyType) (number_bytes (key_type_number GenericSecret)))
    (unwrap_or (attribute_of template attr.Value) value) (unwrap_or (attribute_of template attr.ValueLen) (number_bytes (length value)))
unfolding attribute_table
parts_create template random value = record { class_is = refl; type_is = refl; value_is = refl; len_is = refl }

parts_generate : (m : MechType) (template : List Entry) (random value : List ℕ)
    → HasParts (made_entries (making.Generate m) SecretKey [] template random value)
    (unwrap_or (attribute_of template attr.Class) (number_bytes 4))
    (unwrap_or (attribute_of template attr.KeyType) (number_bytes (key_type_number (key_type_for m))))
    (unwrap_or (attribute_of template attr.Value) value) (unwrap_or (attribute_of template attr.ValueLen) (number_bytes (length value)))
unfolding attribute_table
parts_generate m template random value = record { class_is = refl; type_is = refl; value_is = refl; len_is = refl }

parts_unwrap : (n : ℕ) (template : List Entry) (random value : List ℕ)
    → HasParts (made_entries (making.Unwrap n) SecretKey [] template random value)
    (unwrap_or (attribute_of template attr.Class) (number_bytes 4))
    (unwrap_or (attribute_of template attr.KeyType) (number_bytes (key_type_number GenericSecret)))
    (unwrap_or (attribute_of template attr.Value) value) (unwrap_or (attribute_of template attr.ValueLen) (number_bytes (length value)))
unfolding attribute_table
parts_unwrap n template random value = record { class_is = refl; type_is = refl; value_is = refl; len_is = refl }

-- ---- C_UnwrapKey

type_required : (n : ℕ) (template : List Entry) (k : Option ObjectClass) → class_of template ≡ k
    → is_of_other_class template ≡ false → list_any (is_missing (making.Unwrap n) template) attribute_table ≡ false
    → is_none (attribute_of template attr.KeyType) ≡ false
unfolding attribute_table
type_required n template None e same complete =
    (both_false (is_none (attribute_of template attr.KeyType)) false (complete_at (making.Unwrap n) None template e complete)).0
type_required n template (Some Data) e same complete = absurd (data_is_other template same e)
type_required n template (Some SecretKey) e same complete =
    (both_false (is_none (attribute_of template attr.KeyType)) false (complete_at (making.Unwrap n) (Some SecretKey) template e complete)).0

no_value_unwrap : (n : ℕ) (s : SessionState) (template : List Entry) → IsFaultless (making.Unwrap n) s [] template
    → attribute_of template attr.Value ≡ None
unfolding attribute_table
no_value_unwrap n s template ok = not_excluded (making.Unwrap n) None [] template (attr_type_number attr.Value) no_original refl ok.included

len_right : (t : KeyType) (o : Option KeyType) (n : ℕ) → o ≡ Some t → is_bad_len o (Some n) ≡ false → is_key_len t n ≡ true
len_right t o n e right = not_false (is_key_len t n) (ap (λ (p : Option KeyType). is_bad_len p (Some n)) (sym e) ∙ right)

pub unwrapped_is_object : (s : SessionState) (template : List Entry) (random value : List ℕ)
    → IsFaultless (making.Unwrap (length value)) s [] template
    → IsObject (made_entries (making.Unwrap (length value)) SecretKey [] template random value)
unwrapped_is_object s template random value ok =
    let n = length value in
    let two = both_false (is_of_other_class template) (is_other (number_of (attribute_of template attr.ValueLen)) n) ok.agrees in
    let given = is_given (attribute_of template attr.KeyType) (type_required n template (class_of template) refl two.0 ok.complete) in
    let t = type_given template given.0 ok.formed given.1 in
    let type_is : key_type_of template ≡ Some t.0 = ap (λ (o : Option (List ℕ)). key_type_at (number_of o)) given.1 ∙ t.1 in
    let right = len_right t.0 (key_type_of template) n type_is ok.right_unwrapped_len in
    let small : n ≤ 512 = len_small t.0 n right in
    let type_made : key_type_at (number_of
    (Some (unwrap_or (attribute_of template attr.KeyType) (number_bytes (key_type_number GenericSecret))))) ≡ Some t.0 =
    ap (λ (o : Option (List ℕ)). key_type_at
    (number_of (Some (unwrap_or o (number_bytes (key_type_number GenericSecret)))))) given.1 ∙ t.1 in
    let value_made : unwrap_or (attribute_of template attr.Value) value ≡ value =
    ap (λ (o : Option (List ℕ)). unwrap_or o value) (no_value_unwrap n s template ok) in
    let p = parts_unwrap n template random value in
    key_from_parts (made_entries (making.Unwrap n) SecretKey [] template random value) _ _ value _ t.0
    (record {
      class_is = p.class_is;
      type_is = p.type_is;
      value_is = p.value_is ∙ ap (λ (v : List ℕ). Some v) value_made;
      len_is = p.len_is;
    })
    (made_fit (making.Unwrap n) SecretKey [] template random value ok.formed
    (defaults_fit (making.Unwrap n) SecretKey template value (omega (arith, small))))
    (class_chosen template ok.formed two.0) type_made right
    (len_chosen template n (omega (arith, small)) ok.formed two.1)

-- ---- C_GenerateKey

len_required : (m : MechType) (template : List Entry) (k : Option ObjectClass) → class_of template ≡ k
    → is_of_other_class template ≡ false → list_any (is_missing (making.Generate m) template) attribute_table ≡ false
    → is_none (attribute_of template attr.ValueLen) ≡ false
unfolding attribute_table
len_required m template None e same complete =
    (both_false (is_none (attribute_of template attr.ValueLen)) false (complete_at (making.Generate m) None template e complete)).0
len_required m template (Some Data) e same complete = absurd (data_is_other template same e)
len_required m template (Some SecretKey) e same complete =
    (both_false (is_none (attribute_of template attr.ValueLen)) false
    (complete_at (making.Generate m) (Some SecretKey) template e complete)).0

no_value_generate : (m : MechType) (s : SessionState) (template : List Entry) → IsFaultless (making.Generate m) s [] template
    → attribute_of template attr.Value ≡ None
unfolding attribute_table
no_value_generate m s template ok =
    not_excluded (making.Generate m) None [] template (attr_type_number attr.Value) no_original refl ok.included

asked_is : (n : ℕ) → n ≤ 512 → asked_len (Some n) ≡ n
asked_is n small = ap (λ (b : Bool). cond b n 0) (le-leb n 512 small)

pub generated_is_object : (m : MechType) (s : SessionState) (template : List Entry) (random value : List ℕ)
    → length value ≡ generated_len template → IsFaultless (making.Generate m) s [] template
    → IsObject (made_entries (making.Generate m) SecretKey [] template random value)
generated_is_object m s template random value len_is ok =
    let t = key_type_for m in
    let two = both_false (is_of_other_class template)
    (is_other (number_of (attribute_of template attr.KeyType)) (key_type_number t)) ok.agrees in
    let given = is_given (attribute_of template attr.ValueLen) (len_required m template (class_of template) refl two.0 ok.complete) in
    let n = from_be_bytes w64 given.0 in
    let number_is : number_of (Some given.0) ≡ Some n = value_len_number template given.0 ok.formed given.1 in
    let asked : number_of (attribute_of template attr.ValueLen) ≡ Some n = ap number_of given.1 ∙ number_is in
    let right : is_key_len t n ≡ true =
    not_false (is_key_len t n) (ap (λ (o : Option ℕ). is_bad_len (Some t) o) (sym asked) ∙ ok.right_len) in
    let small : n ≤ 512 = len_small t n right in
    let same : length value ≡ n = len_is ∙ ap asked_len asked ∙ asked_is n small in
    let right_value : is_key_len t (length value) ≡ true = ap (is_key_len t) same ∙ right in
    let value_made : unwrap_or (attribute_of template attr.Value) value ≡ value =
    ap (λ (o : Option (List ℕ)). unwrap_or o value) (no_value_generate m s template ok) in
    let len_made : number_of (Some (unwrap_or (attribute_of template attr.ValueLen) (number_bytes (length value)))) ≡ Some (length value) =
    ap (λ (o : Option (List ℕ)). number_of (Some (unwrap_or o (number_bytes (length value))))) given.1 ∙ number_is
    ∙ ap (λ (k : ℕ). Some k) (sym same) in
    let p = parts_generate m template random value in
    key_from_parts (made_entries (making.Generate m) SecretKey [] template random value) _ _ value _ t
    (record {
      class_is = p.class_is;
      type_is = p.type_is;
      value_is = p.value_is ∙ ap (λ (v : List ℕ). Some v) value_made;
      len_is = p.len_is;
    })
    (made_fit (making.Generate m) SecretKey [] template random value ok.formed
    (defaults_fit (making.Generate m) SecretKey template value (omega (arith, small, same))))
    (class_chosen template ok.formed two.0) (type_chosen template t ok.formed two.1) right_value len_made

-- ---- C_CreateObject

class_missing : (template : List Entry) → class_of template ≡ None
    → list_any (is_missing making.Create template) attribute_table ≡ false → is_none (attribute_of template attr.Class) ≡ false
unfolding attribute_table
class_missing template e complete =
    (both_false (is_none (attribute_of template attr.Class))
    (is_none (attribute_of template attr.Value) || (is_none (attribute_of template attr.KeyType) || false))
    (complete_at making.Create None template e complete)).0

pub created_has_class : (s : SessionState) (template : List Entry) → IsFaultless making.Create s [] template → class_of template ≡ None → ⊥
created_has_class s template ok none =
    let given = is_given (attribute_of template attr.Class) (class_missing template none ok.complete) in
    listed_class template given.0 ok.formed given.1 (ap (λ (o : Option (List ℕ)). class_at (number_of o)) (sym given.1) ∙ none)

key_required : (template : List Entry) → class_of template ≡ Some SecretKey
    → list_any (is_missing making.Create template) attribute_table ≡ false → (is_none (attribute_of template attr.Value) ≡ false)
    × (is_none (attribute_of template attr.KeyType) ≡ false)
unfolding attribute_table
key_required template e complete =
    let all = both_false (is_none (attribute_of template attr.Class))
    (is_none (attribute_of template attr.Value) || (is_none (attribute_of template attr.KeyType) || false))
    (complete_at making.Create (Some SecretKey) template e complete) in
    let last = both_false (is_none (attribute_of template attr.Value)) (is_none (attribute_of template attr.KeyType) || false) all.1 in
    (last.0, (both_false (is_none (attribute_of template attr.KeyType)) false last.1).0)

class_kept : (o : Option (List ℕ)) (k : ObjectClass) (other : List ℕ) → class_at (number_of o) ≡ Some k
    → class_at (number_of (Some (unwrap_or o other))) ≡ Some k
class_kept (Some v) k other e = e
class_kept None k other e = absurd (let no : None ≡ Some k = sym class_at-none ∙ e in cc)

no_len_create : (s : SessionState) (template : List Entry) → IsFaultless making.Create s [] template
    → attribute_of template attr.ValueLen ≡ None
unfolding attribute_table
no_len_create s template ok = not_excluded making.Create None [] template (attr_type_number attr.ValueLen) no_original refl ok.included

value_form : form_in attribute_table (attr_type_number attr.Value) ≡ Some Bytes
unfolding attribute_table
value_form = refl

given_small : (template : List Entry) → list_any is_ill_formed template ≡ false → length (given_value template) ≤ 1024
given_small template formed =
    let step : (o : Option (List ℕ)) → attribute_of template attr.Value ≡ o → length (unwrap_or o []) ≤ 1024 =
    λ o. elim o as (λ p. attribute_of template attr.Value ≡ p → length (unwrap_or p []) ≤ 1024) [
      | Some v ↦ λ e. leb-true (length v) 1024
          (subst (λ (f : Option Form). fits_form_of f v ≡ true) value_form (given_formed template (attr_type_number attr.Value) v formed e))
      | None ↦ λ e. omega arith
    ] in
    step (attribute_of template attr.Value) refl

data_class : (template : List Entry) (random value : List ℕ)
    → attribute_of (made_entries making.Create Data [] template random value) attr.Class
    ≡ Some (unwrap_or (attribute_of template attr.Class) (number_bytes 4))
unfolding attribute_table
data_class template random value = refl

created_key : (s : SessionState) (template : List Entry) (random : List ℕ) → IsFaultless making.Create s [] template
    → class_of template ≡ Some SecretKey → IsObject (made_entries making.Create SecretKey [] template random (given_value template))
created_key s template random ok class_is =
    let value = given_value template in
    let needed = key_required template class_is ok.complete in
    let v = is_given (attribute_of template attr.Value) needed.0 in
    let given = is_given (attribute_of template attr.KeyType) needed.1 in
    let t = type_given template given.0 ok.formed given.1 in
    let type_is : key_type_of template ≡ Some t.0 = ap (λ (o : Option (List ℕ)). key_type_at (number_of o)) given.1 ∙ t.1 in
    let value_is : value ≡ v.0 = ap (λ (o : Option (List ℕ)). unwrap_or o []) v.1 in
    let len_is : len_of (attribute_of template attr.Value) ≡ Some (length value) =
    ap len_of v.1 ∙ ap (λ (w : List ℕ). Some (length w)) (sym value_is) in
    let right = len_right t.0 (key_type_of template) (length value) type_is
    (ap (λ (o : Option ℕ). is_bad_len (key_type_of template) o) (sym len_is) ∙ ok.right_len) in
    let small : length value ≤ 512 = len_small t.0 (length value) right in
    let type_made : key_type_at (number_of
    (Some (unwrap_or (attribute_of template attr.KeyType) (number_bytes (key_type_number GenericSecret))))) ≡ Some t.0 =
    ap (λ (o : Option (List ℕ)). key_type_at
    (number_of (Some (unwrap_or o (number_bytes (key_type_number GenericSecret)))))) given.1 ∙ t.1 in
    let value_made : unwrap_or (attribute_of template attr.Value) value ≡ value =
    ap (λ (o : Option (List ℕ)). unwrap_or o value) v.1 ∙ sym value_is in
    let len_made : number_of (Some (unwrap_or (attribute_of template attr.ValueLen) (number_bytes (length value)))) ≡ Some (length value) =
    ap (λ (o : Option (List ℕ)). number_of (Some (unwrap_or o (number_bytes (length value))))) (no_len_create s template ok)
    ∙ number_again (length value) (omega (arith, small)) in
    let p = parts_create template random value in
    key_from_parts (made_entries making.Create SecretKey [] template random value) _ _ value _ t.0
    (record {
      class_is = p.class_is;
      type_is = p.type_is;
      value_is = p.value_is ∙ ap (λ (w : List ℕ). Some w) value_made;
      len_is = p.len_is;
    })
    (made_fit making.Create SecretKey [] template random value ok.formed
    (defaults_fit making.Create SecretKey template value (omega (arith, small))))
    (class_kept (attribute_of template attr.Class) SecretKey (number_bytes 4) class_is) type_made right len_made

created_data : (s : SessionState) (template : List Entry) (random : List ℕ) → IsFaultless making.Create s [] template
    → class_of template ≡ Some Data → IsObject (made_entries making.Create Data [] template random (given_value template))
created_data s template random ok class_is =
    let es = made_entries making.Create Data [] template random (given_value template) in
    is_data_object es (ap (λ (o : Option (List ℕ)). class_at (number_of o)) (data_class template random (given_value template))
    ∙ class_kept (attribute_of template attr.Class) Data (number_bytes 4) class_is)
    (made_fit making.Create Data [] template random (given_value template) ok.formed
    (defaults_fit making.Create Data template (given_value template) (given_small template ok.formed)))

pub created_is_object : (s : SessionState) (template : List Entry) (random : List ℕ) (class : ObjectClass)
    → IsFaultless making.Create s [] template → class_of template ≡ Some class
    → IsObject (made_entries making.Create class [] template random (given_value template))
created_is_object s template random Data ok e = created_data s template random ok e
created_is_object s template random SecretKey ok e = created_key s template random ok e

-- ---- what is known of an unwrapped key before its value is

unwrapped_token_flag : (n : ℕ) (template : List Entry) (random value : List ℕ)
    → flag (made_entries (making.Unwrap n) SecretKey [] template random value) attr.Token
    ≡ is_true (Some (unwrap_or (attribute_of template attr.Token) (truth false)))
unfolding attribute_table
unwrapped_token_flag n template random value = refl

pub unwrapped_token : (template : List Entry) (random value : List ℕ) (b : Bool)
    → b ≡ is_true (Some (unwrap_or (attribute_of template attr.Token) (truth false)))
    → flag (made_entries (making.Unwrap (length value)) SecretKey [] template random value) attr.Token ≡ b
unwrapped_token template random value b e = unwrapped_token_flag (length value) template random value ∙ sym e

unwrapped_private_flag : (n : ℕ) (template : List Entry) (random value : List ℕ)
    → flag (made_entries (making.Unwrap n) SecretKey [] template random value) attr.Private
    ≡ is_true (Some (unwrap_or (attribute_of template attr.Private) (truth true)))
unfolding attribute_table
unwrapped_private_flag n template random value = refl

pub unwrapped_private : (template : List Entry) (random value : List ℕ) (b : Bool)
    → b ≡ is_true (Some (unwrap_or (attribute_of template attr.Private) (truth true)))
    → flag (made_entries (making.Unwrap (length value)) SecretKey [] template random value) attr.Private ≡ b
unwrapped_private template random value b e = unwrapped_private_flag (length value) template random value ∙ sym e
