-- What writing bodies again makes of the rows of the objects' table.
use Rattle.std.proofs.Common.{◌≡◌, ◌⊎◌, inl, inr, ℕ, zero, suc, pos, ◌<◌, ◌+◌, ◌==◌, List, [], ◌∷◌, map, length, get_or, All, Bool, true, false, cond, Some, Option, if◌then◌else◌, refl, sym, ap, ◌∙◌, arith}
use Rattle.std.specs.Prelude.{⊤}
use Rattle.std.proofs.lemmas.Bool.Decides.{nat_tests}
use Rattle.std.proofs.lemmas.List.Elements.{All-head, All-tail, All-contains}
use Rattle.std.specs.List.Sorted.{IsPermutation}
use Rattle.std.proofs.lemmas.List.Sorted.{All-permutation, IsPermutation-sym}
use Rattle.sqlite_value.specs.declared.value.Value.TheVariants.{Int, Blob}
use Rattle.sqlite_value.specs.Order.{Row, column}
use Rattle.attrs.specs.Objects.{IsObject}
use Rattle.attrs.specs.OldStored.{has_new_flags, object_old_stored}
use Rattle.attrs.specs.OldStoredLaws.{object_old_stored-complete}
use Rattle.sql_tables.specs.declared.renewals.Renewal.{Renewal}
use Rattle.sql_statements.specs.Store.{body_row}
use Rattle.keep_sql_model.specs.Store.{AreObjects, Body, encoded, row_of_object}
use Rattle.keep_sql_model.specs.Formats.{AreBodies, IsBody, old_encoded}
use Rattle.sql_statements.specs.Rows.{ids_and_bodies, natural}
use Rattle.keep_sql_model.specs.Renewals.{IsCovered, IsOfRow}
use Rattle.sql_statements.proofs.Ids.{RiseFrom}
use Rattle.sql_statements.specs.Bodies.{put_at}
use Rattle.sql_tables.specs.Renewed.{put_each}

-- ---- the two formats

two_formats : (o p : Body) → encoded o ≡ old_encoded p → ⊥
unfolding encoded old_encoded
two_formats o p same = absurd (cc)

pub old_object_of : (a b : Body) → IsObject a → IsObject b → has_new_flags a ≡ false → has_new_flags b ≡ false
    → old_encoded a ≡ old_encoded b → a ≡ b
unfolding old_encoded
old_object_of a b one two plain bare same =
    let both : ◌≡◌ {A = Option Body} (Some a) (Some b) =
    sym (object_old_stored-complete a one plain) ∙ ap object_old_stored same ∙ object_old_stored-complete b two bare in cc

-- ---- the bodies after each renewal

-- the body that an id has in the end
abbrev last_of : List Renewal → ℕ → List ℕ → List ℕ
last_of [] id bytes = bytes
last_of (e ∷ es) id bytes = last_of es id (if id == natural e.id then e.body.items else bytes)

abbrev ended : List Renewal → ℕ × List ℕ → ℕ × List ℕ
ended es x = (x.0, last_of es x.0 x.1)

ended_at : (e : Renewal) (es : List Renewal) (x : ℕ × List ℕ) → ended es (put_at (natural e.id) e.body.items x) ≡ ended (e ∷ es) x
ended_at e es x = go (x.0 == natural e.id)
  where
    go : (t : Bool) → ended es (cond t (x.0, e.body.items) x) ≡ (x.0, last_of es x.0 (cond t e.body.items x.1))
    go true = refl
    go false = refl

ended_more : (e : Renewal) (es : List Renewal) (xs : List (ℕ × List ℕ))
    → map (ended es) (map (put_at (natural e.id) e.body.items) xs) ≡ map (ended (e ∷ es)) xs
ended_more e es [] = refl
ended_more e es (x ∷ xs) =
    let one = ended_at e es x in
    let rest = ended_more e es xs in cc

ended_none : (xs : List (ℕ × List ℕ)) → xs ≡ map (ended []) xs
ended_none [] = refl
ended_none (x ∷ xs) = ap (λ (rest : List (ℕ × List ℕ)). x ∷ rest) (ended_none xs)

put_each_is : (es : List Renewal) (xs : List (ℕ × List ℕ)) → put_each es xs ≡ map (ended es) xs
put_each_is [] xs = ended_none xs
put_each_is (e ∷ es) xs = put_each_is es (map (put_at (natural e.id) e.body.items) xs) ∙ ended_more e es xs

-- ---- what an id has in the end

-- each renewal of the id has this body
abbrev AreRight : ℕ → List ℕ → List Renewal → Type 0
AreRight id bytes [] = ⊤
AreRight id bytes (e ∷ es) = (natural e.id ≡ id → e.body.items ≡ bytes) × AreRight id bytes es

-- one is of the id
abbrev HasOne : ℕ → List Renewal → Type 0
HasOne id [] = ⊥
HasOne id (e ∷ es) = (natural e.id ≡ id) ⊎ HasOne id es

last_is : (id : ℕ) (bytes was : List ℕ) (es : List Renewal) → AreRight id bytes es → (was ≡ bytes) ⊎ HasOne id es
    → last_of es id was ≡ bytes
last_is id bytes was [] right (inl is) = is
last_is id bytes was [] right (inr none) = absurd none
last_is id bytes was (e ∷ es) right has =
    go (id == natural e.id) refl has (last_is id bytes e.body.items es right.1) (last_is id bytes was es right.1)
  where
    go : (t : Bool) → (id == natural e.id) ≡ t → (was ≡ bytes) ⊎ HasOne id (e ∷ es)
        → ((e.body.items ≡ bytes) ⊎ HasOne id es → last_of es id e.body.items ≡ bytes)
        → ((was ≡ bytes) ⊎ HasOne id es → last_of es id was ≡ bytes)
        → last_of es id (cond t e.body.items was) ≡ bytes
    go true is has this other = let key : natural e.id ≡ id = grind (arith, nat_tests) in this (inl (right.0 key))
    go false is (inl same) this other = other (inl same)
    go false is (inr (inl key)) this other = absurd (let no : ⊥ = grind (arith, nat_tests) in no)
    go false is (inr (inr later)) this other = other (inr later)

-- ---- each id has one body

later_above : (low : ℕ) (xs : List (ℕ × List ℕ)) (k : ℕ) (d : ℕ × List ℕ) → RiseFrom low xs → k < length xs → low < (get_or xs k d).0
later_above low [] k d up below = absurd (omega arith)
later_above low (x ∷ xs) zero d up below = up.0
later_above low (x ∷ xs) (suc k) d up below = let first = up.0 in let later = later_above x.0 xs k d up.1 (omega arith) in omega arith

same_under : (low : ℕ) (xs : List (ℕ × List ℕ)) (i j : ℕ) (d e : ℕ × List ℕ) → RiseFrom low xs → i < length xs → j < length xs
    → (get_or xs i d).0 ≡ (get_or xs j e).0 → (get_or xs i d).1 ≡ (get_or xs j e).1
same_under low [] i j d e up one two same = absurd (omega arith)
same_under low (x ∷ xs) zero zero d e up one two same = refl
same_under low (x ∷ xs) zero (suc j) d e up one two same = absurd (let later = later_above x.0 xs j e up.1 (omega arith) in omega arith)
same_under low (x ∷ xs) (suc i) zero d e up one two same = absurd (let later = later_above x.0 xs i d up.1 (omega arith) in omega arith)
same_under low (x ∷ xs) (suc i) (suc j) d e up one two same = same_under x.0 xs i j d e up.1 (omega arith) (omega arith) same

-- what a query returns of a row
abbrev shown : ℕ × List ℕ → Row
shown x = Int (pos x.0) ∷ Blob x.1 ∷ []

abbrev IsUnder : ℕ × List ℕ → Row → Type 0
IsUnder x row = column row 0 ≡ Int (pos x.0) → column row 1 ≡ Blob x.1

abbrev AreUnder : List Row → List (ℕ × List ℕ) → Type 0
AreUnder rows [] = ⊤
AreUnder rows (x ∷ xs) = All (IsUnder x) rows × AreUnder rows xs

shown_each : (P : Row → Type 0) (xs : List (ℕ × List ℕ)) → All (λ x. P (shown x)) xs → All P (ids_and_bodies (map body_row xs))
shown_each P [] all = λ k d below. absurd (omega arith)
shown_each P (x ∷ xs) all = λ k d below. at k d below (shown_each P xs (All-tail (λ y. P (shown y)) x xs all))
  where
    at : (k : ℕ) (d : Row) → k < length (ids_and_bodies (map body_row (x ∷ xs))) → All P (ids_and_bodies (map body_row xs))
        → P (get_or (ids_and_bodies (map body_row (x ∷ xs))) k d)
    at zero d below rest = All-head (λ y. P (shown y)) x xs all
    at (suc k) d below rest = rest k d (omega arith)

one_under : (all : List (ℕ × List ℕ)) (k : ℕ) (x : ℕ × List ℕ) → RiseFrom 0 all → k < length all → get_or all k x ≡ x
    → All (IsUnder x) (ids_and_bodies (map body_row all))
one_under all k x up below is = shown_each (IsUnder x) all (λ j e low same. other j e low same)
  where
    other : (j : ℕ) (e : ℕ × List ℕ) → j < length all → Int (pos (get_or all j e).0) ≡ Int (pos x.0) → Blob (get_or all j e).1 ≡ Blob x.1
    other j e low same =
        let id : (get_or all j e).0 ≡ x.0 = cc in
        let bytes = same_under 0 all j k e x up low below (id ∙ ap (λ (y : ℕ × List ℕ). y.0) (sym is)) in
        ap (λ (b : List ℕ). Blob b) (bytes ∙ ap (λ (y : ℕ × List ℕ). y.1) is)

-- those from the place `k` on
all_under : (all xs : List (ℕ × List ℕ)) (k : ℕ) (rows : List Row) → RiseFrom 0 all → IsPermutation (ids_and_bodies (map body_row all)) rows
    → ((j : ℕ) (d : ℕ × List ℕ) → j < length xs → (k + j < length all) × (get_or all (k + j) d ≡ get_or xs j d)) → AreUnder rows xs
all_under all [] k rows up same within = tt
all_under all (x ∷ xs) k rows up same within =
    let here = within 0 x (omega arith) in
    let zero_more : k + 0 ≡ k = omega arith in (
      All-permutation (IsUnder x) (ids_and_bodies (map body_row all)) rows same
          (one_under all k x up (let low = here.0 in omega arith) (ap (λ (i : ℕ). get_or all i x) (sym zero_more) ∙ here.1)),
      all_under all xs (k + 1) rows up same
          (λ j d low. let there = within (suc j) d (omega arith) in let next : k + suc j ≡ (k + 1) + j = omega arith in
          (let below = there.0 in omega arith, ap (λ (i : ℕ). get_or all i d) (sym next) ∙ there.1)),
    )

-- ---- the renewals of one row

renews_right : (es : List Renewal) (rows : List Row) (x : ℕ × List ℕ) (o : Body) → IsBody x.1 o → IsObject o → All (IsUnder x) rows
    → (e : Renewal) → IsOfRow rows e → natural e.id ≡ x.0 → e.body.items ≡ encoded o
renews_right es rows x o body is under e of same =
    let it = of.2 in
    let id : it.id ≡ x.0 = sym (ap natural it.same_id) ∙ same in
    let bytes : Blob (old_encoded it.object) ≡ Blob x.1 =
    sym it.was ∙ All-contains (IsUnder x) rows of.0 under of.1 (it.id_is ∙ ap (λ (n : ℕ). Int (pos n)) id) in
    let old : old_encoded it.object ≡ x.1 = cc in
    elim body [
      | inl new ↦ absurd (two_formats o it.object (sym new ∙ sym old))
      | inr was ↦
          let found : it.object ≡ o = old_object_of it.object o it.is_object is it.unflagged was.1 (old ∙ was.0) in
          it.body_is ∙ ap (λ (p : Body). encoded p) found
    ]

all_right : (es : List Renewal) (rows : List Row) (x : ℕ × List ℕ) (o : Body) → IsBody x.1 o → IsObject o → All (IsUnder x) rows
    → All (IsOfRow rows) es → AreRight x.0 (encoded o) es
all_right [] rows x o body is under of = tt
all_right (e ∷ es) rows x o body is under of = (
  renews_right (e ∷ es) rows x o body is under e (All-head (IsOfRow rows) e es of),
  all_right es rows x o body is under (All-tail (IsOfRow rows) e es of),
)

has_one : (id : ℕ) (e : Renewal) (es : List Renewal) (k : ℕ) → k < length es → get_or es k e ≡ e → natural e.id ≡ id → HasOne id es
has_one id e [] k below is same = absurd (omega (arith, below))
has_one id e (x ∷ es) zero below is same = inl (ap (λ (y : Renewal). natural y.id) is ∙ same)
has_one id e (x ∷ es) (suc k) below is same = inr (has_one id e es k (omega (arith, below)) is same)

covers : (es : List Renewal) (x : ℕ × List ℕ) (o : Body) → IsBody x.1 o → IsCovered es (shown x) → (x.1 ≡ encoded o) ⊎ HasOne x.0 es
covers es x o (inl new) covered = inl new
covers es x o (inr was) (inl shows) =
    absurd (let same : Blob x.1 ≡ Blob (encoded shows.object) = shows.body_is in let bytes : x.1 ≡ encoded shows.object = cc in
    two_formats shows.object o (sym bytes ∙ was.0))
covers es x o (inr was) (inr of) =
    inr (has_one x.0 of.0 es of.1.0 of.1.1 of.1.2
    (let same : Int (pos x.0) ≡ Int (pos of.2.id) = of.2.id_is in let id : x.0 ≡ of.2.id = cc in ap natural of.2.same_id ∙ sym id))

each_renewed : (es : List Renewal) (rows : List Row) (xs : List (ℕ × List ℕ)) (objects : List (ℕ × Body)) → AreBodies xs objects
    → AreObjects objects → All (IsCovered es) (ids_and_bodies (map body_row xs)) → AreUnder rows xs → All (IsOfRow rows) es
    → map body_row (map (ended es) xs) ≡ map row_of_object objects
each_renewed es rows [] [] are is covered under of = refl
each_renewed es rows [] (o ∷ objects) are is covered under of = absurd are
each_renewed es rows (x ∷ xs) [] are is covered under of = absurd are
each_renewed es rows (x ∷ xs) (o ∷ objects) are is covered under of =
    let bytes = last_is x.0 (encoded o.1) x.1 es (all_right es rows x o.1 are.1 is.0 under.0 of)
    (covers es x o.1 are.1 (All-head (IsCovered es) (shown x) (ids_and_bodies (map body_row xs)) covered)) in
    let row : body_row (ended es x) ≡ row_of_object o =
    ap (λ (n : ℕ). body_row (n, last_of es x.0 x.1)) are.0 ∙ ap (λ (b : List ℕ). body_row (o.0, b)) bytes in
    let rest = each_renewed es rows xs objects are.2 is.1
    (All-tail (IsCovered es) (shown x) (ids_and_bodies (map body_row xs)) covered) under.1 of in
    ap (λ (r : Row). r ∷ map body_row (map (ended es) xs)) row ∙ ap (λ (rs : List Row). row_of_object o ∷ rs) rest

-- the rows of the table are those of the objects, in format 2
pub all_renewed : (es : List Renewal) (rows : List Row) (xs : List (ℕ × List ℕ)) (objects : List (ℕ × Body)) → RiseFrom 0 xs
    → AreBodies xs objects → AreObjects objects → IsPermutation (ids_and_bodies (map body_row xs)) rows
    → All (IsCovered es) rows → All (IsOfRow rows) es → map body_row (put_each es xs) ≡ map row_of_object objects
all_renewed es rows xs objects up are is same covered of =
    ap (map body_row) (put_each_is es xs)
    ∙ each_renewed es rows xs objects are is
    (All-permutation (IsCovered es) rows (ids_and_bodies (map body_row xs))
    (IsPermutation-sym (ids_and_bodies (map body_row xs)) rows same) covered)
    (all_under xs xs 0 rows up same
    (λ j d low. let plain : 0 + j ≡ j = omega arith in (omega (arith, low), ap (λ (i : ℕ). get_or xs i d) plain))) of
