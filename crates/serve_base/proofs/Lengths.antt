-- How long the values of a whole object are.
use Rattle.std.proofs.Common.{◌≡◌, ℕ, ◌≤◌, true, ◌&&◌, eqb, List, [], ◌∷◌, length, Option, Some, None, IfSome, arith}
use Rattle.std.specs.Prelude.{nat_lt, slice_index}
use Rattle.std.proofs.lemmas.Bool.{and_parts, cond_both, eqb-true, leb-true}
use Rattle.ck_types.specs.declared.entry.Entry.{Entry}
use Rattle.ck_types.specs.declared.object_class.ObjectClass.{ObjectClass}
use Rattle.ck_types.specs.declared.object_class.ObjectClass.TheVariants.{Data, SecretKey}
use Rattle.attrs.specs.declared.table.AttributeRow.{AttributeRow}
use Rattle.attrs.specs.declared.table.Form.{Form}
use Rattle.attrs.specs.declared.table.Form.TheVariants.{Truth, Number, Bytes}
use Rattle.attrs.specs.Table.{row_number, rows_of}
use Rattle.attrs.specs.Objects.{attribute, class_of, fits_rows, has_form, has_key_value, is_of_class, IsObject}

form-short : (f : Form) (bytes : List ℕ) → has_form f bytes ≡ true → length bytes ≤ 1024
form-short Truth bytes has = let one = eqb-true _ _ (and_parts (eqb (length bytes) 1) (nat_lt (slice_index bytes 0) 2) has).0 in
    omega (arith, one)
form-short Number bytes has = let eight = eqb-true _ _ has in omega (arith, eight)
form-short Bytes bytes has = leb-true _ _ has

rows-short : (rs : List AttributeRow) (es : List Entry) → fits_rows rs es ≡ true → (n : ℕ)
    → IfSome (attribute es n) (λ bytes. length bytes ≤ 1024)
rows-short [] [] fits n = tt
rows-short [] (e ∷ es) fits n = absurd cc
rows-short (r ∷ rs) [] fits n = absurd cc
rows-short (r ∷ rs) (e ∷ es) fits n =
    let a = and_parts (eqb e.attr_type (row_number r) && has_form r.form e.value) (fits_rows rs es) fits in
    let form = (and_parts (eqb e.attr_type (row_number r)) (has_form r.form e.value) a.0).1 in
    cond_both (eqb e.attr_type n) (Some e.value) (attribute es n) (λ o. IfSome o (λ bytes. length bytes ≤ 1024))
    (λ _. form-short r.form e.value form) (λ _. rows-short rs es a.1 n)

class-short : (class : Option ObjectClass) (o : List Entry) → is_of_class class o ≡ true → (n : ℕ)
    → IfSome (attribute o n) (λ bytes. length bytes ≤ 1024)
class-short None o is n = absurd cc
class-short (Some Data) o is n = rows-short (rows_of Data) o is n
class-short (Some SecretKey) o is n =
    rows-short (rows_of SecretKey) o (and_parts (fits_rows (rows_of SecretKey) o) (has_key_value o) is).0 n

-- each has at most 1,024 bytes
pub values-short : (o : List Entry) → IsObject o → (n : ℕ) → IfSome (attribute o n) (λ bytes. length bytes ≤ 1024)
values-short o is n = class-short (class_of o) o is n
