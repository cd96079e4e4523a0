-- What the queries of whole tables give.
use Rattle.std.proofs.Common.{◌≡◌, ℕ, zero, suc, pos, ◌<◌, ◌≤◌, List, [], ◌∷◌, map, length, get_or, false, All, refl, sym, ap, subst, add-one, ◌∙◌, arith}
use Rattle.std.proofs.lemmas.Int.{ints}
use Rattle.std.proofs.lemmas.Bool.Decides.{nat_tests}
use Rattle.std.specs.List.{flat_map}
use Rattle.std.specs.Ordering.{int_cmp, is_lt}
use Rattle.std.specs.List.Sorted.{IsPermutation, IsSorted}
use Rattle.std.proofs.lemmas.List.Sorted.{IsPermutation-map, All-permutation}
use Rattle.sqlite_value.specs.declared.value.Value.TheVariants.{Int}
use Rattle.sqlite_value.specs.Order.{Row, column, value_cmp}
use Rattle.sqlite_value.specs.Keys.{ascending}
use Rattle.sqlite_value.proofs.OrderLemmas.{value_cmp-Int, then-Equal}
use Rattle.sqlite.specs.Tree.{Trees, rowid}
use Rattle.sqlite.specs.Edit.{id_in}
use Rattle.sqlite.specs.Collation.TheVariants.{Binary}
use Rattle.sqlite_sql.specs.Term.{Env, col}
use Rattle.sqlite.specs.Query.{Query, inner, end, IsAnswer, output, output_cmp, Output}
use Rattle.sqlite.specs.Program.{overlay}
use Rattle.sql_statements.specs.Bodies.{Bodies, RowIdsRise, row_ids}
use Rattle.sql_statements.specs.Store.{HasRows, body_row}
use Rattle.sql_statements.specs.Rows.{bodies, ids_and_bodies, natural}
use Rattle.sql_statements.proofs.Texts.{plain_query}
use Rattle.sql_statements.proofs.Rising.{AreFrom, from_places, one_order}

-- ---- queries with no order

abbrev pub record_query : Query
record_query = record plain_query { from = inner 0 end; project = col 1 2 ∷ [] }

abbrev pub objects_query : Query
objects_query = record plain_query { project = col 1 0 ∷ col 1 2 ∷ [] }

staged_all : (params : Row) (rows : List Row)
    → flat_map (λ (r : Row). (params ∷ r ∷ []) ∷ []) rows ≡ map (λ (r : Row). params ∷ r ∷ []) rows
staged_all params [] = refl
staged_all params (r ∷ rows) = ap (λ (rest : List Env). (params ∷ r ∷ []) ∷ rest) (staged_all params rows)

map_twice : {A B C : Type 0} (f : B → C) (g : A → B) (xs : List A) → map f (map g xs) ≡ map (λ x. f (g x)) xs
map_twice f g [] = refl
map_twice {A} {B} {C} f g (x ∷ xs) = ap (λ (rest : List C). f (g x) ∷ rest) (map_twice f g xs)

-- the bodies of the first table, in some order
pub record_rows : (db : Trees) (rows : List Row) → IsAnswer record_query (overlay db []) [] rows → IsPermutation (bodies (db 0)) rows
record_rows db rows a =
    let staged : a.staged ≡ map (λ (r : Row). [] ∷ r ∷ []) (db 0) = a.grouped ∙ staged_all [] (db 0) in
    let kept : a.kept ≡ map (λ (r : Row). ([], column r 2 ∷ [])) (db 0) =
    a.distinct ∙ ap (map (output record_query)) staged ∙ map_twice (output record_query) (λ (r : Row). [] ∷ r ∷ []) (db 0) in
    let moved = IsPermutation-map (λ (o : Output). o.1) a.kept a.ordered a.same in
    let from : map (λ (o : Output). o.1) a.kept ≡ map (λ (r : Row). column r 2 ∷ []) (db 0) =
    ap (map (λ (o : Output). o.1)) kept ∙ map_twice (λ (o : Output). o.1) (λ (r : Row). ([], column r 2 ∷ [])) (db 0) in
    subst (IsPermutation (map (λ (r : Row). column r 2 ∷ []) (db 0))) (sym a.shown)
    (subst (λ (k : List Row). IsPermutation k (map (λ (o : Output). o.1) a.ordered)) from moved)

-- the ids and the bodies of the second
pub object_rows : (db : Trees) (rows : List Row) → IsAnswer objects_query (overlay db []) [] rows
    → IsPermutation (ids_and_bodies (db 1)) rows
object_rows db rows a =
    let staged : a.staged ≡ map (λ (r : Row). [] ∷ r ∷ []) (db 1) = a.grouped ∙ staged_all [] (db 1) in
    let kept : a.kept ≡ map (λ (r : Row). ([], rowid r ∷ column r 2 ∷ [])) (db 1) =
    a.distinct ∙ ap (map (output objects_query)) staged ∙ map_twice (output objects_query) (λ (r : Row). [] ∷ r ∷ []) (db 1) in
    let moved = IsPermutation-map (λ (o : Output). o.1) a.kept a.ordered a.same in
    let from : map (λ (o : Output). o.1) a.kept ≡ map (λ (r : Row). rowid r ∷ column r 2 ∷ []) (db 1) =
    ap (map (λ (o : Output). o.1)) kept ∙ map_twice (λ (o : Output). o.1) (λ (r : Row). ([], rowid r ∷ column r 2 ∷ [])) (db 1) in
    subst (IsPermutation (map (λ (r : Row). rowid r ∷ column r 2 ∷ []) (db 1))) (sym a.shown)
    (subst (λ (k : List Row). IsPermutation k (map (λ (o : Output). o.1) a.ordered)) from moved)

-- ---- the ids in order

abbrev pub ids_query : Query
ids_query = record plain_query { project = col 1 0 ∷ []; order = (col 1 0, ascending Binary) ∷ [] }

-- what an id is sorted by, and how it is returned
abbrev id_output : ℕ → Output
id_output n = (Int (pos n) ∷ [], Int (pos n) ∷ [])

abbrev id_of : Output → ℕ
id_of o = natural (id_in (rowid o.1))

abbrev IsId : Output → Type 0
IsId o = o ≡ id_output (id_of o)

are_ids : (ns : List ℕ) → All IsId (map id_output ns)
are_ids ns = from_each ns (λ k d. at ns k d)
  where
    from_each : (ns : List ℕ) → ((k : ℕ) (d : Output) → k < length (map id_output ns) → IsId (get_or (map id_output ns) k d))
        → All IsId (map id_output ns)
    from_each ns each = λ k d low. each k d low

    at : (ns : List ℕ) (k : ℕ) (d : Output) → k < length (map id_output ns) → IsId (get_or (map id_output ns) k d)
    at [] k d low = absurd (omega arith)
    at (n ∷ ns) zero d low = refl
    at (n ∷ ns) (suc k) d low = at ns k d (omega arith)

as_ids : (os : List Output) → All IsId os → os ≡ map id_output (map id_of os)
as_ids [] all = refl
as_ids (o ∷ os) all =
    let first : o ≡ id_output (id_of o) = all 0 o (omega arith) in
    let rest = as_ids os (λ k d low. all (suc k) d (omega arith)) in
    cc

-- the test of ORDER BY is that of the numbers
not_below : (m n : ℕ) → is_lt (output_cmp ids_query (id_output n) (id_output m)) ≡ false → m ≤ n
not_below m n test =
    let cmp = then-Equal (value_cmp (Int (pos n)) (Int (pos m))) ∙ value_cmp-Int (pos n) (pos m) in
    let flat : is_lt (int_cmp (pos n) (pos m)) ≡ false = ap is_lt (sym cmp) ∙ test in
    grind (arith, ints, nat_tests)

ids_rise : (ms : List ℕ) → IsSorted (output_cmp ids_query) (map id_output ms) → AreFrom 0 ms
ids_rise [] sorted = tt
ids_rise (m ∷ ms) sorted = (
  omega arith,
  from_places m ms (λ k low. not_below _ _
      (at m ms k low (subst (λ (i : ℕ). is_lt
      (output_cmp ids_query (get_or (map id_output (m ∷ ms)) i (id_output 0)) (get_or (map id_output (m ∷ ms)) k (id_output 0)))
      ≡ false) (add-one k) (sorted k (id_output 0) (omega arith) (omega (arith, lengths ms)))))),
)
  where
    lengths : (ns : List ℕ) → length (map id_output ns) ≡ length ns
    lengths [] = refl
    lengths (n ∷ ns) = ap suc (lengths ns)

    place : (ns : List ℕ) (k : ℕ) → k < length ns → get_or (map id_output ns) k (id_output 0) ≡ id_output (get_or ns k 0)
    place [] k low = absurd (omega arith)
    place (n ∷ ns) zero low = refl
    place (n ∷ ns) (suc k) low = place ns k (omega arith)

    at : (m : ℕ) (ms : List ℕ) (k : ℕ) → k < length ms
        → is_lt (output_cmp ids_query (get_or (map id_output ms) k (id_output 0)) (get_or (map id_output (m ∷ ms)) k (id_output 0))) ≡ false
        → is_lt (output_cmp ids_query (id_output (get_or ms k 0)) (id_output (get_or (m ∷ ms) k 0))) ≡ false
    at m ms k low test = rw (place ms k low, place (m ∷ ms) k (omega arith)) at test

ids_from : (low last : ℕ) (objects : List (ℕ × List ℕ)) → RowIdsRise low objects last → AreFrom low (map (λ (e : ℕ × List ℕ). e.0) objects)
ids_from low last [] ids = tt
ids_from low last (e ∷ es) ids = (let h = ids.0 in omega arith, ids_from e.0 last es ids.2)

pub ids_shown : (db : Trees) (c : Bodies) (rows : List Row) → HasRows db c → IsAnswer ids_query (overlay db []) [] rows
    → rows ≡ map (λ (n : ℕ). Int (pos n) ∷ []) (row_ids c)
ids_shown db c rows it a =
    let staged : a.staged ≡ map (λ (r : Row). [] ∷ r ∷ []) (db 1) = a.grouped ∙ staged_all [] (db 1) in
    let kept : a.kept ≡ map id_output (row_ids c) =
    a.distinct ∙ ap (map (output ids_query)) staged ∙ map_twice (output ids_query) (λ (r : Row). [] ∷ r ∷ []) (db 1)
    ∙ ap (map (λ (r : Row). (rowid r ∷ [], rowid r ∷ []))) it.objects_are
    ∙ map_twice (λ (r : Row). (rowid r ∷ [], rowid r ∷ [])) body_row c.objects
    ∙ sym (map_twice id_output (λ (e : ℕ × List ℕ). e.0) c.objects) in
    let same : IsPermutation (map id_output (row_ids c)) a.ordered = subst (λ (k : List Output). IsPermutation k a.ordered) kept a.same in
    let all = All-permutation IsId (map id_output (row_ids c)) a.ordered same (are_ids (row_ids c)) in
    let ordered = as_ids a.ordered all in
    let numbers : IsPermutation (row_ids c) (map id_of a.ordered) =
    subst (λ (k : List ℕ). IsPermutation k (map id_of a.ordered)) (map_twice id_of id_output (row_ids c) ∙ plain (row_ids c))
    (IsPermutation-map id_of (map id_output (row_ids c)) a.ordered same) in
    let risen = ids_rise (map id_of a.ordered) (subst (IsSorted (output_cmp ids_query)) ordered a.sorted) in
    let found : map id_of a.ordered ≡ row_ids c =
    one_order 0 0 (row_ids c) (map id_of a.ordered) (ids_from 0 c.last_id c.objects it.ids) risen numbers in
    a.shown ∙ ap (map (λ (o : Output). o.1)) (ordered ∙ ap (map id_output) found) ∙ map_twice (λ (o : Output). o.1) id_output (row_ids c)
  where
    plain : (ns : List ℕ) → map (λ (n : ℕ). n) ns ≡ ns
    plain [] = refl
    plain (n ∷ ns) = ap (λ (rest : List ℕ). n ∷ rest) (plain ns)
