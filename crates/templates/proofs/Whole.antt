-- When entries that are made of the rows of a class are an object.
use Rattle.std.proofs.Common.{◌≡◌, ℕ, ◌≤◌, Bool, true, false, cond, ◌&&◌, eqb, List, [], ◌∷◌, length, take, Option, Some, refl, sym, ap, subst, ◌∙◌, arith}
use Rattle.std.specs.Prelude.{unwrap_or}
use Rattle.std.specs.List.{list_any, AllByRecursion}
use Rattle.std.proofs.lemmas.Bool.{and_parts, eqb-true, eq-eqb, le-leb}
use Rattle.std.proofs.lemmas.List.{length-take}
use Rattle.hex.specs.Hex.{encode_lower, lower_digits}
use Rattle.hex.proofs.HexLemmas.{length-encode_with}
use Rattle.ck_types.specs.declared.entry.Entry.{Entry}
use Rattle.ck_types.specs.declared.attr_type.AttrType.TheVariants as attr
use Rattle.ck_types.specs.declared.object_class.ObjectClass.{ObjectClass}
use Rattle.ck_types.specs.declared.object_class.ObjectClass.TheVariants.{Data, SecretKey}
use Rattle.ck_types.specs.declared.key_type.KeyType.{KeyType}
use Rattle.ck_types.specs.Numbers.{attr_type_number}
use Rattle.attrs.specs.declared.table.AttributeRow.{AttributeRow}
use Rattle.attrs.specs.declared.table.Form.{Form}
use Rattle.attrs.specs.declared.table.Form.TheVariants.{Bytes}
use Rattle.attrs.specs.Table.{attribute_table, row_number, rows_of, is_held_by}
use Rattle.attrs.specs.Objects.{attribute, attribute_of, class_of, number_of, key_type_of, is_key_len, is_key_value, has_key_value, is_of_class, IsObject, fits_rows, has_form}
use Rattle.templates.specs.declared.making.Making.{Making}
use Rattle.templates.specs.Faults.{form_in, is_ill_formed}
use Rattle.templates.specs.Made.{made_value, made_entries, not_given, is_renewed, renews, by_default}
use Rattle.templates.proofs.Entries.{AllByRecursion-filter, fits_rows-map}
use Rattle.templates.proofs.Formed.{IsFormed, table_formed, default_formed, chosen_formed}

-- the identifier is small enough
pub digits_formed : (random : List ℕ) → has_form Bytes (encode_lower (take 16 random)) ≡ true
digits_formed random = le-leb (length (encode_lower (take 16 random))) 1024
    (omega (arith, length-encode_with lower_digits (take 16 random), length-take 16 random))

unique_id_form : form_in attribute_table (attr_type_number attr.UniqueId) ≡ Some Bytes
unfolding attribute_table
unique_id_form = refl

value_formed : (c : Making) (class : ObjectClass) (original template : List Entry) (random value : List ℕ) (r : AttributeRow)
    → list_any is_ill_formed template ≡ false → IsFormed r
    → has_form r.form (not_given c class original template value r) ≡ true
    → has_form r.form (made_value c class original template random value r) ≡ true
value_formed c class original template random value r formed row_is other =
    let step : (b : Bool) → is_renewed c r ≡ b
    → has_form r.form (cond b (encode_lower (take 16 random))
    (unwrap_or (attribute template (row_number r)) (not_given c class original template value r))) ≡ true =
    λ b. elim b as (λ d. is_renewed c r ≡ d
    → has_form r.form (cond d (encode_lower (take 16 random))
    (unwrap_or (attribute template (row_number r)) (not_given c class original template value r))) ≡ true) [
      | true ↦ λ e.
          let number_is : row_number r ≡ attr_type_number attr.UniqueId =
          eqb-true (row_number r) (attr_type_number attr.UniqueId)
          (and_parts (renews c) (eqb (row_number r) (attr_type_number attr.UniqueId)) e).1 in
          let form_is : Some r.form ≡ Some Bytes = sym row_is ∙ ap (form_in attribute_table) number_is ∙ unique_id_form in
          let same : r.form ≡ Bytes = cc in
          subst (λ (f : Form). has_form f (encode_lower (take 16 random)) ≡ true) (sym same) (digits_formed random)
      | false ↦ λ e. chosen_formed r template (not_given c class original template value r) formed row_is other
    ] in
    step (is_renewed c r) refl

values_formed : (c : Making) (class : ObjectClass) (original template : List Entry) (random value : List ℕ) (rs : List AttributeRow)
    → list_any is_ill_formed template ≡ false → AllByRecursion IsFormed rs
    → AllByRecursion (λ r. has_form r.form (not_given c class original template value r) ≡ true) rs
    → AllByRecursion (λ r. has_form r.form (made_value c class original template random value r) ≡ true) rs
values_formed c class original template random value [] formed rows others = tt
values_formed c class original template random value (r ∷ rs) formed rows others = (
  value_formed c class original template random value r formed rows.0 others.0,
  values_formed c class original template random value rs formed rows.1 others.1,
)

-- the made entries are those of the class, each in its form
pub made_fit : (c : Making) (class : ObjectClass) (original template : List Entry) (random value : List ℕ)
    → list_any is_ill_formed template ≡ false
    → AllByRecursion (λ r. has_form r.form (not_given c class original template value r) ≡ true) (rows_of class)
    → fits_rows (rows_of class) (made_entries c class original template random value) ≡ true
made_fit c class original template random value formed others =
    fits_rows-map (made_value c class original template random value) (rows_of class)
    (values_formed c class original template random value (rows_of class) formed
    (AllByRecursion-filter IsFormed (is_held_by class) attribute_table table_formed) others)

pub defaults_fit : (c : Making) (class : ObjectClass) (template : List Entry) (value : List ℕ) → length value ≤ 1024
    → AllByRecursion (λ r. has_form r.form (by_default r.default c class template value r.attribute) ≡ true) (rows_of class)
defaults_fit c class template value small =
    AllByRecursion-filter (λ r. has_form r.form (by_default r.default c class template value r.attribute) ≡ true)
    (is_held_by class) attribute_table
    (default_formed c class template value (le-leb (length value) 1024 small))

-- ---- objects by their parts

pub is_data_object : (es : List Entry) → class_of es ≡ Some Data → fits_rows (rows_of Data) es ≡ true → IsObject es
is_data_object es class fits = ap (λ (k : Option ObjectClass). is_of_class k es) class ∙ fits

pub is_key_object : (es : List Entry) → class_of es ≡ Some SecretKey → fits_rows (rows_of SecretKey) es ≡ true
    → has_key_value es ≡ true → IsObject es
is_key_object es class fits value = ap (λ (k : Option ObjectClass). is_of_class k es) class
    ∙ ap (λ (b : Bool). b && has_key_value es) fits ∙ value

pub key_value_is : (es : List Entry) (t : KeyType) (v : List ℕ) (n : ℕ) → key_type_of es ≡ Some t
    → attribute_of es attr.Value ≡ Some v → number_of (attribute_of es attr.ValueLen) ≡ Some n → is_key_len t (length v) ≡ true
    → n ≡ length v → has_key_value es ≡ true
key_value_is es t v n type value len right same =
    let parts : has_key_value es ≡ is_key_value (Some t) (Some v) (Some n) =
    ap (λ (x : Option KeyType). is_key_value x (attribute_of es attr.Value) (number_of (attribute_of es attr.ValueLen))) type
    ∙ ap (λ (x : Option (List ℕ)). is_key_value (Some t) x (number_of (attribute_of es attr.ValueLen))) value
    ∙ ap (λ (x : Option ℕ). is_key_value (Some t) (Some v) x) len in
    parts ∙ ap (λ (b : Bool). b && eqb n (length v)) right ∙ eq-eqb n (length v) same
