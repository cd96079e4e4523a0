-- The size of an object.
use Rattle.std.proofs.Common.{◌≡◌, ℕ, ◌+◌, Bool, true, false, cond, ◌&&◌, not, eqb, List, [], ◌∷◌, length, Option, Some, None, refl, sym, ◌∙◌, ap, arith, inl, inr}
use Rattle.std.specs.Option.{unwrap_or}
use Rattle.std.specs.List.{list_any, flat_map, sum_by}
use Rattle.std.proofs.lemmas.Bool.{cases_Bool, eqb-true}
use Rattle.std.proofs.lemmas.List.{length-append}
use Rattle.std.proofs.lemmas.List.Concat.{flat_map-cons}
use Rattle.std.proofs.lemmas.List.Sums.{sum_by-cons}
use Rattle.ck_types.specs.declared.entry.Entry.{Entry}
use Rattle.ck_types.specs.declared.attr_type.AttrType.TheVariants as attr
use Rattle.ck_types.specs.declared.key_type.KeyType.{KeyType}
use Rattle.ck_types.specs.declared.object_class.ObjectClass.{ObjectClass}
use Rattle.ck_types.specs.declared.object_class.ObjectClass.TheVariants.{Data, SecretKey}
use Rattle.ck_types.specs.Numbers.{attr_type_number}
use Rattle.attrs.specs.declared.table.AttributeRow.{AttributeRow}
use Rattle.attrs.specs.Table.{attribute_table, row_number, rows_of}
use Rattle.attrs.specs.Objects.{attribute_of, class_of, key_type_of, number_of, is_key_len, is_key_value, fits_rows, has_form, has_key_value, is_of_class, IsObject}
use Rattle.attrs.specs.Masking.{is_secret_key, is_masked, without, mask as mask_object}
use Rattle.attrs.specs.MaskingLaws.{attribute-without}
use Rattle.attrs.specs.Stored.{stored_entry, stored_form}
use Rattle.model_answers.specs.GetObjectSize.{attribute_size, object_size, value_len}
use Rattle.lists.proofs.ListLemmas.{filter-less}

both-true : (a b : Bool) → (a && b) ≡ true → (a ≡ true) × (b ≡ true)
both-true true b e = (refl, e)
both-true false b e = absurd cc

-- ---- the size of what is revealed

pub value_len-mask : (o : List Entry) → value_len (mask_object o) ≡ value_len o
value_len-mask o = at (is_masked o) refl where
  at : (b : Bool) → is_masked o ≡ b → value_len (cond b (without attr.Value o) o) ≡ value_len o
  at false h = refl
  at true h =
      let key : is_secret_key (class_of o) ≡ true = (both-true _ _ h).0 in
      rw (
        attribute-without attr.Value o (attr_type_number attr.Class) (λ e. absurd (omega (arith, e))),
        attribute-without attr.Value o (attr_type_number attr.ValueLen) (λ e. absurd (omega (arith, e))),
        key,
      ) refl

pub object_size-mask : (o : List Entry) → object_size (mask_object o) ≡ object_size o
object_size-mask o = at (is_masked o) refl where
  at : (b : Bool) → is_masked o ≡ b → object_size (cond b (without attr.Value o) o) ≡ object_size o
  at false h = refl
  at true h =
      let key : is_secret_key (class_of o) ≡ true = (both-true _ _ h).0 in
      rw (
        filter-less (λ (e : Entry). not (eqb e.attr_type (attr_type_number attr.Value)))
            (λ e. not (eqb e.attr_type (attr_type_number attr.Value))) o (λ e k. k),
        attribute-without attr.Value o (attr_type_number attr.Class) (λ e. absurd (omega (arith, e))),
        attribute-without attr.Value o (attr_type_number attr.ValueLen) (λ e. absurd (omega (arith, e))),
        key,
      ) refl

-- ---- the length of the stored form

abbrev entry_size : Entry → ℕ
entry_size e = attribute_size (length e.value)

-- rows of attributes without CKA_VALUE, and with it once
abbrev has_value : List AttributeRow → Bool
has_value rs = list_any (λ r. eqb (row_number r) (attr_type_number attr.Value)) rs

abbrev has_one_value : List AttributeRow → Bool
has_one_value [] = false
has_one_value (r ∷ rs) = cond (eqb (row_number r) (attr_type_number attr.Value)) (not (has_value rs)) (has_one_value rs)

all-stay : (rs : List AttributeRow) (es : List Entry) → fits_rows rs es ≡ true → has_value rs ≡ false → without attr.Value es ≡ es
all-stay [] [] fits none = refl
all-stay [] (x ∷ es) fits none = absurd cc
all-stay (r ∷ rs) [] fits none = absurd cc
all-stay (r ∷ rs) (x ∷ es) fits none =
    let a = both-true (eqb x.attr_type (row_number r) && has_form r.form x.value) (fits_rows rs es) fits in
    let is : x.attr_type ≡ row_number r = eqb-true _ _ (both-true _ _ a.0).0 in
    elim (cases_Bool (eqb (row_number r) (attr_type_number attr.Value))) [
      | inl e ↦ let k : true ≡ false = rw e at none in cc
      | inr e ↦
          let other : eqb x.attr_type (attr_type_number attr.Value) ≡ false = ap (λ n. eqb n (attr_type_number attr.Value)) is ∙ e in
          rw other (ap (λ ys. x ∷ ys) (all-stay rs es a.1 (rw e at none)))
    ]

-- the attributes of an object: its value, and the others
record HasValue (es : List Entry) : Type 0 where
  value : List ℕ
  is : attribute_of es attr.Value ≡ Some value
  sizes : sum_by entry_size es ≡ sum_by entry_size (without attr.Value es) + attribute_size (length value)

parts : (rs : List AttributeRow) (es : List Entry) → fits_rows rs es ≡ true → has_one_value rs ≡ true → HasValue es
parts [] es fits one = absurd cc
parts (r ∷ rs) [] fits one = absurd cc
parts (r ∷ rs) (x ∷ es) fits one =
    let a = both-true (eqb x.attr_type (row_number r) && has_form r.form x.value) (fits_rows rs es) fits in
    let is : x.attr_type ≡ row_number r = eqb-true _ _ (both-true _ _ a.0).0 in
    elim (cases_Bool (eqb (row_number r) (attr_type_number attr.Value))) [
      | inl e ↦
          let found : eqb x.attr_type (attr_type_number attr.Value) ≡ true = ap (λ n. eqb n (attr_type_number attr.Value)) is ∙ e in
          record {
            value = x.value;
            is = rw found refl;
            sizes = rw (found, all-stay rs es a.1 (none (has_value rs) (rw e at one))) (sum_by-cons entry_size x es ∙ omega arith);
          }
      | inr e ↦
          let other : eqb x.attr_type (attr_type_number attr.Value) ≡ false = ap (λ n. eqb n (attr_type_number attr.Value)) is ∙ e in
          let rest = parts rs es a.1 (rw e at one) in
          record {
            value = rest.value;
            is = rw other rest.is;
            sizes = rw other (sum_by-cons entry_size x es ∙ omega (arith, rest.sizes, sum_by-cons entry_size x (without attr.Value es)));
          }
    ] where
      none : (b : Bool) → not b ≡ true → b ≡ false
      none true k = absurd cc
      none false k = refl

one-value : (c : ObjectClass) → has_one_value (rows_of c) ≡ true
unfolding attribute_table
one-value Data = refl
one-value SecretKey = refl

sizes-length : (es : List Entry) → length (flat_map stored_entry.encode es) ≡ sum_by entry_size es
sizes-length [] = refl
sizes-length (e ∷ es) = ap length (flat_map-cons stored_entry.encode e es)
    ∙ length-append (stored_entry.encode e) (flat_map stored_entry.encode es) ∙ omega (arith, sizes-length es, sum_by-cons entry_size e es)

stored-length : (es : List Entry) → length (stored_form es) ≡ 3 + sum_by entry_size es
stored-length es = omega (arith, sizes-length es)

key-length : (t : Option KeyType) (value : List ℕ) (len : Option ℕ) → is_key_value t (Some value) len ≡ true
    → unwrap_or len 0 ≡ length value
key-length (Some t) value (Some len) is =
    eqb-true len (length value) (both-true (is_key_len t (length value)) (eqb len (length value)) is).1
key-length (Some t) value None is = absurd cc
key-length None value len is = absurd cc

-- a value's length is that of the attribute
pub value_len-is : (c : Option ObjectClass) (es : List Entry) (value : List ℕ) → class_of es ≡ c → is_of_class c es ≡ true
    → attribute_of es attr.Value ≡ Some value → value_len es ≡ length value
value_len-is None es value class is there = absurd cc
value_len-is (Some Data) es value class is there = rw (class, there) refl
value_len-is (Some SecretKey) es value class is there =
    rw class (key-length (key_type_of es) value (number_of (attribute_of es attr.ValueLen))
    (rw there at (both-true (fits_rows (rows_of SecretKey) es) (has_key_value es) is).1))

rows-are : (c : Option ObjectClass) (es : List Entry) → is_of_class c es ≡ true → HasValue es
rows-are None es is = absurd cc
rows-are (Some Data) es is = parts (rows_of Data) es is (one-value Data)
rows-are (Some SecretKey) es is =
    parts (rows_of SecretKey) es (both-true (fits_rows (rows_of SecretKey) es) (has_key_value es) is).0 (one-value SecretKey)

pub stored-size : (o : List Entry) → IsObject o → length (stored_form o) ≡ object_size o
stored-size o is =
    let p = rows-are (class_of o) o is in
    stored-length o ∙ ap (λ n. 3 + n)
    (p.sizes ∙ ap (λ n. sum_by entry_size (without attr.Value o) + attribute_size n)
    (sym (value_len-is (class_of o) o p.value refl is p.is)))
