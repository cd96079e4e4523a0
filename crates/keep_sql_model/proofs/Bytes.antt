-- The stored forms, by the names that the tables know them by.
use Rattle.std.proofs.Common.{length, take, map, get_or, ◌<◌, ◌≤◌, pos, arith, ◌≡◌, ◌∙◌, refl, ap, sym, subst, ℕ, List, [], ◌∷◌, inl, inr, true, false, Option, None, Some, Result, Ok, Err, IfOk}
use Rattle.std.proofs.lemmas.List.{take_all}
use Rattle.sqlite_value.specs.declared.value.Value.TheVariants.{Blob, Int}
use Rattle.sqlite_value.specs.Order.{Row, column}
use Rattle.keep.specs.Contents.{Contents, object_at}
use Rattle.std.specs.Prelude.{IsSome}
use Rattle.attrs.specs.Stored as object
use Rattle.attrs.specs.Stored.{DecodesObject}
use Rattle.attrs.specs.declared.fault.DecodeFault.{DecodeFault}
use Rattle.attrs.specs.declared.fault.DecodeFault.TheVariants.{Form, Memory}
use Rattle.pin_record.specs.Records.{TokenRecord}
use Rattle.pin_record.specs.Stored as token
use Rattle.pin_record.specs.declared.fault.DecodeFault as record_fault
use Rattle.pin_record.specs.declared.fault.DecodeFault.TheVariants as record_faults
use Rattle.pin_record.proofs.StoredLaws.{record_old_stored-complete, record_stored-complete}
use Rattle.attrs.specs.OldStored as old_object
use Rattle.attrs.specs.OldStored.{has_new_flags}
use Rattle.sqlite_value.specs.declared.value.Value.{Value}
use Rattle.keep_sql_model.specs.Store.{Body, RowShows, encoded, encoded_record}
use Rattle.keep_sql_model.specs.Formats.{IsBody, IsRecordBody, is_old, old_encoded, old_encoded_record}
use Rattle.keep_sql_model.specs.Rows.{first_number}

pub object_bytes : (o : Body) (bytes : List ℕ) → bytes ≡ object.stored_form o → bytes ≡ encoded o
unfolding encoded
object_bytes o bytes is = is

pub record_bytes : (r : TokenRecord) (bytes : List ℕ) → bytes ≡ token.stored_record_form r → bytes ≡ encoded_record r
unfolding encoded_record
record_bytes r bytes is = is

pub as_stored : (o : Body) (bytes : List ℕ) → bytes ≡ encoded o → bytes ≡ object.stored_form o
unfolding encoded
as_stored o bytes is = is

pub one_object : (o x : Body) → ◌≡◌ {A = Option Body} (Some o) (Some x) → x ≡ o
one_object o x same = cc

-- the bytes of the row that holds an object
pub shown_bytes : (c : Contents) (id : ℕ) (row : Row) (it : RowShows c id row) (bytes : List ℕ) → Blob bytes ≡ column row 0
    → bytes ≡ encoded it.body
shown_bytes c id row it bytes is = let same : Blob bytes ≡ Blob (encoded it.body) = is ∙ ap (λ (r : Row). column r 0) it.row_is in cc

pub found_there : {E : Type 0} (c : Contents) (id : ℕ) (row : Row) (it : RowShows c id row) (r : Result Body E)
    → IfOk r (λ x. x ≡ it.body) → IfOk r (λ x. object_at c id ≡ Some x)
found_there c id row it (Ok x) same = it.is ∙ ap (λ (b : Body). Some b) (sym same)
found_there c id row it (Err e) same = tt

pub some_of : (c : Contents) (id : ℕ) (row : Row) → RowShows c id row → IsSome (object_at c id)
some_of c id row it = subst (λ (o : Option Body). IsSome o) (sym it.is) refl

-- a body that is the stored form of an object decodes
pub no_form : (fault : DecodeFault) (o : Body) → DecodesObject (Err fault) (Some o) → fault ≡ Form → ⊥
no_form Form o none is = absurd (cc)
no_form Memory o any is = absurd (cc)

pub as_decoded : {P : Type 0} (o x : Body) → DecodesObject (Ok x) (Some o) → (x ≡ o → P) → P
as_decoded o x is go = go (one_object o x is)

pub found_ok : (c : Contents) (id : ℕ) (row : Row) (it : RowShows c id row) (x : Body) → x ≡ it.body → object_at c id ≡ Some x
found_ok c id row it x same = it.is ∙ ap (λ (b : Body). Some b) (sym same)

-- ---- rows as they are returned

numbers_of : (ids : List ℕ) → map first_number (map (λ (id : ℕ). Int (pos id) ∷ []) ids) ≡ ids
numbers_of [] = refl
numbers_of (id ∷ ids) = ap (λ (rest : List ℕ). id ∷ rest) (numbers_of ids)

pub ids_are : (rows : List Row) (ids out : List ℕ) (n : ℕ) → length rows ≤ n → rows ≡ map (λ (id : ℕ). Int (pos id) ∷ []) ids
    → out ≡ map first_number (take n rows) → out ≡ ids
ids_are rows ids out n all is found = found ∙ ap (map first_number) (take_all n rows all ∙ is) ∙ numbers_of ids

-- ---- the body of the record

pub no_record : (fault : record_fault.DecodeFault) (bytes : List ℕ) (r : TokenRecord) → token.IsRecord r → bytes ≡ encoded_record r
    → token.DecodesRecord {X = TokenRecord} (Err fault) (token.record_stored bytes) → ⊥
unfolding encoded_record
no_record record_faults.Form bytes r fits is none = let some : token.record_stored bytes ≡ Some r = ap token.record_stored is
    ∙ record_stored-complete r fits in absurd (let both : ◌≡◌ {A = Option TokenRecord} None (Some r) = sym none ∙ some in cc)
no_record record_faults.Memory bytes r fits is none = none

pub one_row : (rows : List Row) (row : Row) → 1 ≤ length rows → length rows < 2 → row ≡ get_or rows 0 row → rows ≡ row ∷ []
one_row [] row some few is = absurd (omega arith)
one_row (r ∷ []) row some few is = ap (λ (x : Row). x ∷ []) (sym is)
one_row (r ∷ q ∷ more) row some few is = absurd (omega arith)

-- the only row is that of the record
pub same_row : (rows : List Row) (row other : Row) → rows ≡ row ∷ [] → rows ≡ other ∷ [] → row ≡ other
same_row rows row other one two = let both : row ∷ [] ≡ other ∷ [] = sym one ∙ two in cc

pub body_bytes : (row : Row) (r : TokenRecord) (bytes : List ℕ) → Blob bytes ≡ column row 0 → column row 0 ≡ Blob (encoded_record r)
    → bytes ≡ encoded_record r
body_bytes row r bytes here is = let same : Blob bytes ≡ Blob (encoded_record r) = here ∙ is in cc

-- ---- bodies of format 1

pub old_object_bytes : (o : Body) (bytes : List ℕ) → bytes ≡ old_object.old_form o → bytes ≡ old_encoded o
unfolding old_encoded
old_object_bytes o bytes is = is

pub as_old_stored : (o : Body) (bytes : List ℕ) → bytes ≡ old_encoded o → bytes ≡ old_object.old_form o
unfolding old_encoded
as_old_stored o bytes is = is

pub old_record_bytes : (r : TokenRecord) (bytes : List ℕ) → bytes ≡ token.old_record_form r → bytes ≡ old_encoded_record r
unfolding old_encoded_record
old_record_bytes r bytes is = is

-- the first byte of each

pub new_is : (o : Body) → is_old (encoded o) ≡ false
unfolding encoded
new_is o = refl

pub old_is : (o : Body) → is_old (old_encoded o) ≡ true
unfolding old_encoded
old_is o = refl

pub new_record_is : (r : TokenRecord) → is_old (encoded_record r) ≡ false
unfolding encoded_record
new_record_is r = refl

pub old_record_is : (r : TokenRecord) → is_old (old_encoded_record r) ≡ true
unfolding old_encoded_record
old_record_is r = refl

-- a body whose first byte is known
pub if_old : (bytes : List ℕ) (o : Body) → IsBody bytes o → is_old bytes ≡ true → (bytes ≡ old_encoded o) × (has_new_flags o ≡ false)
if_old bytes o (inl new) old = absurd (let no : true ≡ false = sym old ∙ ap is_old new ∙ new_is o in cc)
if_old bytes o (inr was) old = was

pub if_new : (bytes : List ℕ) (o : Body) → IsBody bytes o → is_old bytes ≡ false → bytes ≡ encoded o
if_new bytes o (inl is) new = is
if_new bytes o (inr was) new = absurd (let no : false ≡ true = sym new ∙ ap is_old was.0 ∙ old_is o in cc)

pub if_old_record : (bytes : List ℕ) (r : TokenRecord) → IsRecordBody bytes r → is_old bytes ≡ true → (bytes ≡ old_encoded_record r)
    × token.IsOldRecord r
if_old_record bytes r (inl new) old = absurd (let no : true ≡ false = sym old ∙ ap is_old new.0 ∙ new_record_is r in cc)
if_old_record bytes r (inr was) old = was

pub if_new_record : (bytes : List ℕ) (r : TokenRecord) → IsRecordBody bytes r → is_old bytes ≡ false → (bytes ≡ encoded_record r)
    × token.IsRecord r
if_new_record bytes r (inl is) new = is
if_new_record bytes r (inr was) new = absurd (let no : false ≡ true = sym new ∙ ap is_old was.0 ∙ old_record_is r in cc)

pub no_old_record : (fault : record_fault.DecodeFault) (bytes : List ℕ) (r : TokenRecord) → token.IsOldRecord r
    → bytes ≡ old_encoded_record r → token.DecodesRecord {X = TokenRecord} (Err fault) (token.record_old_stored bytes) → ⊥
unfolding old_encoded_record
no_old_record record_faults.Form bytes r fits is none = let some : token.record_old_stored bytes ≡ Some r =
    ap token.record_old_stored is ∙ record_old_stored-complete r fits in
    absurd (let both : ◌≡◌ {A = Option TokenRecord} None (Some r) = sym none ∙ some in cc)
no_old_record record_faults.Memory bytes r fits is none = none

-- the bytes of a returned body
pub same_bytes : (one two : List ℕ) (v : Value) → Blob one ≡ v → v ≡ Blob two → one ≡ two
same_bytes one two v here there = let same : Blob one ≡ Blob two = here ∙ there in cc
