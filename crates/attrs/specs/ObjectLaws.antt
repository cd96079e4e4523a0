-- What follows from being an object.
use Rattle.std.proofs.Common.{◌≡◌, ℕ, ◌≤◌, Bool, true, false, cond, ◌&&◌, ◌||◌, eqb, ltb, List, [], ◌∷◌, length, get_or, Option, Some, None, refl, sym, ap, subst, arith, lit≤}
use Rattle.std.specs.Prelude.{filter}
use Rattle.std.specs.List.{AllByRecursion, list_any}
use Rattle.std.proofs.lemmas.Bool.{and_parts, eqb-true, leb-true}
use Rattle.ck_types.specs.declared.entry.Entry.{Entry}
use Rattle.ck_types.specs.declared.attr_type.AttrType.{AttrType}
use Rattle.ck_types.specs.declared.attr_type.AttrType.TheVariants as attr
use Rattle.ck_types.specs.declared.object_class.ObjectClass.{ObjectClass}
use Rattle.ck_types.specs.declared.object_class.ObjectClass.TheVariants.{Data, SecretKey}
use Rattle.ck_types.specs.declared.key_type.KeyType.{KeyType}
use Rattle.ck_types.specs.declared.key_type.KeyType.TheVariants.{GenericSecret, Aes}
use Rattle.ck_types.specs.Numbers.{attr_type_number, object_class_number, key_type_number, first_with, IsInverse}
use Rattle.ck_types.specs.Numbered.{first_with-inverse}
use Rattle.attrs.specs.declared.table.AttributeRow.{AttributeRow}
use Rattle.attrs.specs.declared.table.Form.{Form}
use Rattle.attrs.specs.declared.table.Form.TheVariants.{Truth, Number, Bytes}
use Rattle.attrs.specs.Table.{attribute_table, row_number, rows_of, is_held_by}
use Rattle.attrs.specs.Objects.{attribute, attribute_of, class_at, class_of, classes, key_type_at, key_types, fits_rows, has_form, is_of_class, IsObject, has_key_value}

-- ---- classes and key types by their numbers

all_classes : (c : ObjectClass) → first_with object_class_number classes (object_class_number c) ≡ Some c
all_classes Data = refl
all_classes SecretKey = refl

pub class_at-inverse : (n : ℕ) (r : Option ObjectClass) → IsInverse object_class_number n r → class_at (Some n) ≡ r
unfolding class_at
class_at-inverse = first_with-inverse object_class_number classes all_classes

pub class_at-none : class_at None ≡ None
unfolding class_at
class_at-none = refl

all_key_types : (t : KeyType) → first_with key_type_number key_types (key_type_number t) ≡ Some t
all_key_types GenericSecret = refl
all_key_types Aes = refl

pub key_type_at-inverse : (n : ℕ) (r : Option KeyType) → IsInverse key_type_number n r → key_type_at (Some n) ≡ r
unfolding key_type_at
key_type_at-inverse = first_with-inverse key_type_number key_types all_key_types

pub key_type_at-none : key_type_at None ≡ None
unfolding key_type_at
key_type_at-none = refl

-- ---- the attributes of some rows

pub attr_type_number-small : (t : AttrType) → attr_type_number t ≤ 1000
attr_type_number-small attr.Class = lit≤ tt
attr_type_number-small attr.Token = lit≤ tt
attr_type_number-small attr.Private = lit≤ tt
attr_type_number-small attr.Label = lit≤ tt
attr_type_number-small attr.UniqueId = lit≤ tt
attr_type_number-small attr.Application = lit≤ tt
attr_type_number-small attr.Value = lit≤ tt
attr_type_number-small attr.Trusted = lit≤ tt
attr_type_number-small attr.KeyType = lit≤ tt
attr_type_number-small attr.Id = lit≤ tt
attr_type_number-small attr.Sensitive = lit≤ tt
attr_type_number-small attr.Encrypt = lit≤ tt
attr_type_number-small attr.Decrypt = lit≤ tt
attr_type_number-small attr.Wrap = lit≤ tt
attr_type_number-small attr.Unwrap = lit≤ tt
attr_type_number-small attr.Sign = lit≤ tt
attr_type_number-small attr.Verify = lit≤ tt
attr_type_number-small attr.ValueLen = lit≤ tt
attr_type_number-small attr.Extractable = lit≤ tt
attr_type_number-small attr.Local = lit≤ tt
attr_type_number-small attr.NeverExtractable = lit≤ tt
attr_type_number-small attr.AlwaysSensitive = lit≤ tt
attr_type_number-small attr.KeyGenMechanism = lit≤ tt
attr_type_number-small attr.Modifiable = lit≤ tt
attr_type_number-small attr.Copyable = lit≤ tt
attr_type_number-small attr.Destroyable = lit≤ tt
attr_type_number-small attr.WrapWithTrusted = lit≤ tt

form_small : (f : Form) (bytes : List ℕ) → has_form f bytes ≡ true → length bytes ≤ 1024
form_small Truth bytes e = let h = eqb-true (length bytes) 1 (and_parts (eqb (length bytes) 1) (ltb (get_or bytes 0 0) 2) e).0 in
    omega (arith, h)
form_small Number bytes e = omega (arith, eqb-true (length bytes) 8 e)
form_small Bytes bytes e = leb-true (length bytes) 1024 e

-- an attribute of an object is small
pub record IsSmall (e : Entry) : Type 0 where
  pub number_small : e.attr_type ≤ 1000
  pub value_small : length e.value ≤ 1024

pub fits_rows-small : (rs : List AttributeRow) (es : List Entry) → fits_rows rs es ≡ true → AllByRecursion IsSmall es
    × (length es ≡ length rs)
fits_rows-small [] [] e = (tt, refl)
fits_rows-small [] (x ∷ es) e = absurd cc
fits_rows-small (r ∷ rs) [] e = absurd cc
fits_rows-small (r ∷ rs) (x ∷ es) e =
    let a = and_parts (eqb x.attr_type (row_number r) && has_form r.form x.value) (fits_rows rs es) e in
    let b = and_parts (eqb x.attr_type (row_number r)) (has_form r.form x.value) a.0 in
    let n : x.attr_type ≡ row_number r = eqb-true x.attr_type (row_number r) b.0 in
    let rest = fits_rows-small rs es a.1 in (
      (record { number_small = rw n (attr_type_number-small r.attribute); value_small = form_small r.form x.value b.1 }, rest.0),
      omega (arith, rest.1),
    )

length-filter : (p : AttributeRow → Bool) (rs : List AttributeRow) → length (filter p rs) ≤ length rs
length-filter p [] = lit≤ tt
length-filter p (r ∷ rs) =
    let h = length-filter p rs in
    let step : (b : Bool) → length (cond b (r ∷ filter p rs) (filter p rs)) ≤ length (r ∷ rs) =
    λ b. elim b as (λ c. length (cond c (r ∷ filter p rs) (filter p rs)) ≤ length (r ∷ rs)) [
      | true ↦ omega
          (arith, h)
      | false ↦ omega (arith, h)
    ] in
    step (p r)

length-attribute_table : length attribute_table ≡ 28
unfolding attribute_table
length-attribute_table = refl

rows_few : (c : ObjectClass) → length (rows_of c) ≤ 28
rows_few c = omega (arith, length-filter (is_held_by c) attribute_table, length-attribute_table)

-- what an object is, by its class
pub record HasClassRows (es : List Entry) : Type 0 where
  pub class : ObjectClass
  pub class_is : class_of es ≡ Some class
  pub rows : fits_rows (rows_of class) es ≡ true

has_rows : (o : Option ObjectClass) (es : List Entry) → class_of es ≡ o → is_of_class o es ≡ true → HasClassRows es
has_rows None es c e = absurd cc
has_rows (Some Data) es c e = record { class = Data; class_is = c; rows = e }
has_rows (Some SecretKey) es c e =
    record { class = SecretKey; class_is = c; rows = (and_parts (fits_rows (rows_of SecretKey) es) (has_key_value es) e).0 }

pub IsObject-rows : (es : List Entry) → IsObject es → HasClassRows es
IsObject-rows es is = has_rows (class_of es) es refl is

pub IsObject-small : (es : List Entry) → IsObject es → AllByRecursion IsSmall es × (length es ≤ 28)
IsObject-small es is =
    let h = IsObject-rows es is in
    let t = fits_rows-small (rows_of h.class) es h.rows in
    (t.0, omega (arith, t.1, rows_few h.class))

-- an attribute of the rows is there
pub fits_rows-held : (rs : List AttributeRow) (es : List Entry) (n : ℕ) → fits_rows rs es ≡ true
    → list_any (λ r. eqb (row_number r) n) rs ≡ true → attribute es n ≡ None → ⊥
fits_rows-held [] [] n e held none = cc
fits_rows-held [] (x ∷ es) n e held none = cc
fits_rows-held (r ∷ rs) [] n e held none = cc
fits_rows-held (r ∷ rs) (x ∷ es) n e held none =
    let a = and_parts (eqb x.attr_type (row_number r) && has_form r.form x.value) (fits_rows rs es) e in
    let b = and_parts (eqb x.attr_type (row_number r)) (has_form r.form x.value) a.0 in
    let same : eqb (row_number r) n ≡ eqb x.attr_type n = ap (λ (m : ℕ). eqb m n) (sym (eqb-true x.attr_type (row_number r) b.0)) in
    let step : (t : Bool) → eqb x.attr_type n ≡ t → (t || list_any (λ r. eqb (row_number r) n) rs) ≡ true
    → cond t (Some x.value) (attribute es n) ≡ None → ⊥ =
    λ t. elim t as (λ u. eqb x.attr_type n ≡ u → (u || list_any (λ r. eqb (row_number r) n) rs) ≡ true
    → cond u (Some x.value) (attribute es n) ≡ None → ⊥) [
      | true ↦ λ h k m. cc
      | false ↦ λ h k m. fits_rows-held rs es n a.1 k m
    ] in
    step (eqb x.attr_type n) refl (subst (λ (t : Bool). (t || list_any (λ r. eqb (row_number r) n) rs) ≡ true) same held) none

value_in_rows : (c : ObjectClass) → list_any (λ r. eqb (row_number r) (attr_type_number attr.Value)) (rows_of c) ≡ true
unfolding attribute_table
value_in_rows Data = refl
value_in_rows SecretKey = refl

-- each object has a value
pub IsObject-value : (es : List Entry) → IsObject es → attribute_of es attr.Value ≡ None → ⊥
IsObject-value es is =
    let h = IsObject-rows es is in
    fits_rows-held (rows_of h.class) es (attr_type_number attr.Value) h.rows (value_in_rows h.class)
