-- What follows of a template on which no condition holds.
use Rattle.std.proofs.Common.{◌≡◌, ℕ, ◌<◌, ◌≤◌, ◌^◌, Bool, true, false, cond, ◌&&◌, ◌||◌, not, eqb, leb, List, Option, Some, None, refl, sym, ap, subst, ◌∙◌, arith}
use Rattle.std.specs.Prelude.{is_none}
use Rattle.std.specs.Int.{w64, from_be_bytes}
use Rattle.std.specs.List.{list_any}
use Rattle.std.proofs.lemmas.Bool.{and_parts, eqb-true, eq-eqb, leb-true}
use Rattle.std.proofs.lemmas.Nat.{from_be_bytes-to_be_bytes_8}
use Rattle.ck_types.specs.declared.entry.Entry.{Entry}
use Rattle.ck_types.specs.declared.attr_type.AttrType.TheVariants as attr
use Rattle.ck_types.specs.declared.object_class.ObjectClass.{ObjectClass}
use Rattle.ck_types.specs.declared.key_type.KeyType.{KeyType}
use Rattle.ck_types.specs.declared.key_type.KeyType.TheVariants.{GenericSecret, Aes}
use Rattle.ck_types.specs.declared.session_state.SessionState.{SessionState}
use Rattle.ck_types.specs.Numbers.{attr_type_number}
use Rattle.attrs.specs.declared.table.Form.TheVariants.{Number}
use Rattle.attrs.specs.Table.{attribute_table, row_number}
use Rattle.attrs.specs.Objects.{attribute, attribute_of, number_of, class_at, class_of, key_type_at, is_key_len, has_form}
use Rattle.templates.specs.declared.making.Making.{Making}
use Rattle.templates.specs.Making.{rule}
use Rattle.templates.specs.Faults.{template_fault, is_unknown, is_ill_formed, is_unlisted, contradicts, is_read_only, is_excluded, disagrees, is_missing, has_bad_len, has_bad_unwrapped_len, is_about, is_held, is_inconsistent, is_required, refuses, is_other, form_in, fits_form_of}
use Rattle.templates.specs.Made.{number_bytes}
use Rattle.templates.proofs.Entries.{both_false, not_false, any_false-attribute}

cond_none : {A : Type 0} (b : Bool) (x : A) (o : Option A) → cond b (Some x) o ≡ None → (b ≡ false) × (o ≡ None)
cond_none true x o e = absurd cc
cond_none false x o e = (refl, e)

pub record IsFaultless (c : Making) (s : SessionState) (original template : List Entry) : Type 0 where
  pub formed : list_any is_ill_formed template ≡ false
  pub writable : list_any (is_read_only c s original) template ≡ false
  pub included : list_any (is_excluded c original) template ≡ false
  pub agrees : disagrees c template ≡ false
  pub complete : list_any (is_missing c template) attribute_table ≡ false
  pub right_len : has_bad_len c template ≡ false
  pub right_unwrapped_len : has_bad_unwrapped_len c template ≡ false

pub faultless : (c : Making) (s : SessionState) (original template : List Entry) → template_fault c s original template ≡ None
    → IsFaultless c s original template
unfolding template_fault
faultless c s original template e =
    let f1 = cond_none (list_any (is_unknown (class_of original)) template) _ _ e in
    let f2 = cond_none (list_any is_ill_formed template) _ _ f1.1 in
    let f3 = cond_none (list_any (λ e. list_any (contradicts e) template) template) _ _ f2.1 in
    let f4 = cond_none (list_any (is_read_only c s original) template) _ _ f3.1 in
    let f5 = cond_none (list_any (is_excluded c original) template || disagrees c template) _ _ f4.1 in
    let f6 = cond_none (list_any (is_missing c template) attribute_table) _ _ f5.1 in
    let f7 = cond_none (has_bad_len c template) _ _ f6.1 in
    let f8 = cond_none (has_bad_unwrapped_len c template) _ _ f7.1 in
    let two = both_false (list_any (is_excluded c original) template) (disagrees c template) f5.0 in
    record {
      formed = f2.0;
      writable = f4.0;
      included = two.0;
      agrees = two.1;
      complete = f6.0;
      right_len = f7.0;
      right_unwrapped_len = f8.0;
    }

-- ---- what isn't given

when_given : (template : List Entry) (n : ℕ) → ((v : List ℕ) → attribute template n ≡ Some v → ⊥) → attribute template n ≡ None
when_given template n none =
    let step : (o : Option (List ℕ)) → attribute template n ≡ o → attribute template n ≡ None =
    λ o. elim o as (λ p. attribute template n ≡ p → attribute template n ≡ None) [ Some v ↦ λ e. absurd (none v e) | None ↦ λ e. e ] in
    step (attribute template n) refl

pub not_excluded : (c : Making) (k : Option ObjectClass) (original template : List Entry) (n : ℕ) → class_of original ≡ k
    → list_any (λ r. is_about k n r && is_inconsistent (rule c r)) attribute_table ≡ true
    → list_any (is_excluded c original) template ≡ false → attribute template n ≡ None
not_excluded c k original template n class refused included =
    when_given template n (λ v given.
    let g = any_false-attribute (is_excluded c original) template n v included given in
    let at_class : list_any (λ r. is_about k g.entry.attr_type r && is_inconsistent (rule c r)) attribute_table ≡ false =
    subst (λ (j : Option ObjectClass). list_any
    (λ r. is_about j g.entry.attr_type r && is_inconsistent (rule c r)) attribute_table ≡ false) class g.fails in
    let at_number : list_any (λ r. is_about k n r && is_inconsistent (rule c r)) attribute_table ≡ false =
    subst (λ (m : ℕ). list_any (λ r. is_about k m r && is_inconsistent (rule c r)) attribute_table ≡ false) g.number_is at_class in
    let no : true ≡ false = sym refused ∙ at_number in
    cc)

pub not_read_only : (c : Making) (s : SessionState) (k : Option ObjectClass) (original template : List Entry) (n : ℕ)
    → class_of original ≡ k
    → ((present : Option (List ℕ)) (v : List ℕ)
    → list_any (λ r. is_about k n r && refuses (rule c r) s present v) attribute_table ≡ true)
    → list_any (is_read_only c s original) template ≡ false → attribute template n ≡ None
not_read_only c s k original template n class refused writable =
    when_given template n (λ v given.
    let g = any_false-attribute (is_read_only c s original) template n v writable given in
    let present = attribute original g.entry.attr_type in
    let at_class : list_any (λ r. is_about k g.entry.attr_type r && refuses (rule c r) s present g.entry.value) attribute_table
    ≡ false = subst (λ (j : Option ObjectClass). list_any
    (λ r. is_about j g.entry.attr_type r && refuses (rule c r) s present g.entry.value) attribute_table ≡ false) class g.fails in
    let at_number : list_any (λ r. is_about k n r && refuses (rule c r) s present g.entry.value) attribute_table ≡ false =
    subst (λ (m : ℕ). list_any (λ r. is_about k m r && refuses (rule c r) s present g.entry.value) attribute_table
    ≡ false) g.number_is at_class in
    let no : true ≡ false = sym (refused present g.entry.value) ∙ at_number in
    cc)

-- ---- what is given

pub is_given : (o : Option (List ℕ)) → is_none o ≡ false → (v : List ℕ) × (o ≡ Some v)
is_given (Some v) e = (v, refl)
is_given None e = absurd cc

-- what is required of a class, by the class that is given
pub complete_at : (c : Making) (k : Option ObjectClass) (template : List Entry) → class_of template ≡ k
    → list_any (is_missing c template) attribute_table ≡ false
    → list_any (λ r. is_required (rule c r) && (is_held k r && is_none (attribute template (row_number r)))) attribute_table ≡ false
complete_at c k template class complete =
    subst (λ (j : Option ObjectClass). list_any
    (λ r. is_required (rule c r) && (is_held j r && is_none (attribute template (row_number r)))) attribute_table ≡ false) class complete

-- a class that is given is listed
pub listed_class : (template : List Entry) (v : List ℕ) → list_any is_ill_formed template ≡ false
    → attribute_of template attr.Class ≡ Some v → class_at (number_of (Some v)) ≡ None → ⊥
listed_class template v formed given none =
    let g = any_false-attribute is_ill_formed template (attr_type_number attr.Class) v formed given in
    let listed = (both_false (not (fits_form_of (form_in attribute_table g.entry.attr_type) g.entry.value))
    (is_unlisted g.entry) g.fails).1 in
    let first = (both_false (eqb g.entry.attr_type (attr_type_number attr.Class) && is_none
    (class_at (number_of (Some g.entry.value))))
    (eqb g.entry.attr_type (attr_type_number attr.KeyType) && is_none (key_type_at (number_of (Some g.entry.value)))) listed).0 in
    let is_class : eqb g.entry.attr_type (attr_type_number attr.Class) ≡ true =
    eq-eqb g.entry.attr_type (attr_type_number attr.Class) g.number_is in
    let unlisted : is_none (class_at (number_of (Some g.entry.value))) ≡ true =
    ap (λ (w : List ℕ). is_none (class_at (number_of (Some w)))) g.value_is ∙ ap is_none none in
    let no : true ≡ false = sym (ap (λ (b : Bool). b && is_none (class_at (number_of (Some g.entry.value)))) is_class ∙ unlisted) ∙ first in
    cc

-- so is a key type
pub listed_type : (template : List Entry) (v : List ℕ) → list_any is_ill_formed template ≡ false
    → attribute_of template attr.KeyType ≡ Some v → key_type_at (number_of (Some v)) ≡ None → ⊥
listed_type template v formed given none =
    let g = any_false-attribute is_ill_formed template (attr_type_number attr.KeyType) v formed given in
    let listed = (both_false (not (fits_form_of (form_in attribute_table g.entry.attr_type) g.entry.value))
    (is_unlisted g.entry) g.fails).1 in
    let second = (both_false (eqb g.entry.attr_type (attr_type_number attr.Class) && is_none
    (class_at (number_of (Some g.entry.value))))
    (eqb g.entry.attr_type (attr_type_number attr.KeyType) && is_none (key_type_at (number_of (Some g.entry.value)))) listed).1 in
    let is_type : eqb g.entry.attr_type (attr_type_number attr.KeyType) ≡ true =
    eq-eqb g.entry.attr_type (attr_type_number attr.KeyType) g.number_is in
    let unlisted : is_none (key_type_at (number_of (Some g.entry.value))) ≡ true =
    ap (λ (w : List ℕ). is_none (key_type_at (number_of (Some w)))) g.value_is ∙ ap is_none none in
    let no : true ≡ false = sym (ap (λ (b : Bool). b && is_none (key_type_at (number_of (Some g.entry.value)))) is_type ∙ unlisted)
    ∙ second in
    cc

-- ---- numbers

pub number_again : (n : ℕ) → n < 2 ^ 64 → number_of (Some (number_bytes n)) ≡ Some n
number_again n lt = ap (λ (m : ℕ). Some m) (from_be_bytes-to_be_bytes_8 n lt)

pub number_formed : (v : List ℕ) → has_form Number v ≡ true → number_of (Some v) ≡ Some (from_be_bytes w64 v)
number_formed v e = ap (λ (b : Bool). cond b (Some (from_be_bytes w64 v)) None) e

-- a number that is given and no other one
pub is_that : (n : ℕ) (o : Option ℕ) → is_other o n ≡ false → (o ≡ None → ⊥) → o ≡ Some n
is_that n None e given = absurd (given refl)
is_that n (Some m) e given = ap (λ (k : ℕ). Some k) (eqb-true m n (not_false (eqb m n) e))

pub len_small : (t : KeyType) (n : ℕ) → is_key_len t n ≡ true → n ≤ 512
len_small GenericSecret n e = leb-true n 512 (and_parts (leb 1 n) (leb n 512) e).1
len_small Aes n e =
    let step : (a b c : Bool) → eqb n 16 ≡ a → eqb n 24 ≡ b → eqb n 32 ≡ c → (a || (b || c)) ≡ true → n ≤ 512 =
    λ a b c. elim a as (λ x. eqb n 16 ≡ x → eqb n 24 ≡ b → eqb n 32 ≡ c → (x || (b || c)) ≡ true → n ≤ 512) [
      | true ↦ λ h i j k. omega (arith, eqb-true n 16 h)
      | false ↦ λ h. elim b as (λ y. eqb n 24 ≡ y → eqb n 32 ≡ c → (y || c) ≡ true → n ≤ 512) [
        | true ↦ λ i j k. omega (arith, eqb-true n 24 i)
        | false ↦ λ i j k. omega (arith, eqb-true n 32 (j ∙ k))
      ]
    ] in
    step (eqb n 16) (eqb n 24) (eqb n 32) refl refl refl e
