-- What DELETE of one object does.
use Rattle.std.proofs.Common.{◌≡◌, ◌⊎◌, inl, inr, ℕ, pos, ◌<◌, ◌≤◌, length, ◌==◌, List, [], ◌∷◌, ◌++◌, map, filter, not, ◌&&◌, if◌then◌else◌, Bool, true, false, Some, Option, Ok, refl, sym, ap, subst, ◌∙◌, arith}
use Rattle.std.proofs.lemmas.Int.{ints}
use Rattle.std.proofs.lemmas.Bool.Decides.{nat_tests}
use Rattle.std.specs.List.{flat_map, list_all}
use Rattle.std.specs.Ordering.{is_eq, int_cmp}
use Rattle.sqlite_value.specs.declared.value.Value.TheVariants.{Null, Int}
use Rattle.sqlite.specs.Order.{Row}
use Rattle.sqlite_value.proofs.OrderLemmas.{value_cmp-Int}
use Rattle.sqlite_sql.specs.Term.{Env, holds}
use Rattle.sqlite_sql.specs.Ops.{binary, is_true, from_truth}
use Rattle.sqlite.specs.Tree.{Trees, has_rowid, without_rowid}
use Rattle.std.specs.List.Sorted.{IsPermutation}
use Rattle.std.proofs.lemmas.List.Sorted.{length_permutation}
use Rattle.sqlite_sql.specs.Term.{col}
use Rattle.sqlite.specs.Query.{Query, IsAnswer, output, page, Output}
use Rattle.sqlite.specs.Program.{overlay}
use Rattle.sqlite_schema.specs.declared.schema.Keys.TheVariants.{Enforced}
use Rattle.sqlite.specs.Rows.{Written, Deletes}
use Rattle.sqlite.specs.Edit.{Edit, edit_of, edited}
use Rattle.sqlite.specs.Rowids.TheVariants.{Given}
use Rattle.sqlite_rules.specs.Calls.{ids_of}
use Rattle.sqlite.proofs.Callers.{one_step, one_permutation}
use Rattle.sql_statements.specs.Bodies.{Bodies}
use Rattle.sql_statements.proofs.Ids.{RiseFrom, rising}
use Rattle.sql_statements.specs.Tables.{token_schema, objects_table}
use Rattle.sql_statements.specs.Store.{HasRows, body_row}
use Rattle.sql_statements.proofs.Insert.{went, same_value, task_on}
use Rattle.sql_statements.proofs.Texts.{by_id, plain_query}

abbrev pub id_params : ℕ → Row
id_params id = Int (pos id) ∷ []

same_test : (m n : ℕ) → is_eq (int_cmp (pos m) (pos n)) ≡ (m == n)
same_test m n = grind (arith, ints, nat_tests)

truth_of : (b : Bool) → is_true (from_truth (Some b)) && true ≡ b
truth_of true = refl
truth_of false = refl

passes_is : (id : ℕ) (rest : Row) (p : ℕ × List ℕ) → list_all (holds ((Int (pos id) ∷ rest) ∷ body_row p ∷ [])) by_id ≡ (p.0 == id)
unfolding binary
passes_is id rest p = truth_of _ ∙ ap is_eq (value_cmp-Int (pos p.0) (pos id)) ∙ same_test p.0 id

pub spares_is : (id : ℕ) (p : ℕ × List ℕ) → has_rowid (pos id) (body_row p) ≡ (p.0 == id)
spares_is id p = ap is_eq (value_cmp-Int (pos p.0) (pos id)) ∙ same_test p.0 id

-- the rows that have the id, which is the first parameter
pub picks : (id : ℕ) (rest : Row) (objects : List (ℕ × List ℕ))
    → flat_map (λ (r : Row). if list_all (holds ((Int (pos id) ∷ rest) ∷ r ∷ [])) by_id then ((Int (pos id) ∷ rest) ∷ r ∷ [])
    ∷ [] else []) (map body_row objects)
    ≡ map (λ (p : ℕ × List ℕ). (Int (pos id) ∷ rest) ∷ body_row p ∷ []) (filter (λ (p : ℕ × List ℕ). p.0 == id) objects)
picks id rest [] = refl
picks id rest (p ∷ more) = rw (passes_is id rest p) (pick_one p more (p.0 == id) (picks id rest more))
  where
    pick_one : (p : ℕ × List ℕ) (more : List (ℕ × List ℕ)) (b : Bool) {tail : List Env}
        → tail ≡ map (λ (q : ℕ × List ℕ). (Int (pos id) ∷ rest) ∷ body_row q ∷ []) (filter (λ (q : ℕ × List ℕ). q.0 == id) more)
        → (if b then ((Int (pos id) ∷ rest) ∷ body_row p ∷ []) ∷ [] else []) ++ tail
        ≡ map (λ (q : ℕ × List ℕ). (Int (pos id) ∷ rest) ∷ body_row q ∷ [])
        (if b then p ∷ filter (λ (q : ℕ × List ℕ). q.0 == id) more else filter (λ (q : ℕ × List ℕ). q.0 == id) more)
    pick_one p more true h = ap (λ (tail : List Env). ((Int (pos id) ∷ rest) ∷ body_row p ∷ []) ∷ tail) h
    pick_one p more false h = h

differs : (m n : ℕ) → m < n → (n == m) ≡ false
differs m n h = grind (arith, nat_tests)

above : (m n : ℕ) → (n ≡ m → ⊥) → (n == m) ≡ false
above m n h = grind (arith, nat_tests)

pub none_below : (low id : ℕ) (objects : List (ℕ × List ℕ)) → RiseFrom low objects → id ≤ low
    → filter (λ (p : ℕ × List ℕ). p.0 == id) objects ≡ []
none_below low id [] up below = refl
none_below low id (p ∷ more) up below =
    let over : id < p.0 = let h = up.0 in omega arith in
    rw (differs id p.0 over) (none_below p.0 id more up.1 (omega arith))

-- an id is that of no object, or of one
pub one_found : (low id : ℕ) (objects : List (ℕ × List ℕ)) → RiseFrom low objects
    → (filter (λ (p : ℕ × List ℕ). p.0 == id) objects ≡ [])
    ⊎ ((b : List ℕ) × (filter (λ (p : ℕ × List ℕ). p.0 == id) objects ≡ (id, b) ∷ []))
one_found low id [] up = inl refl
one_found low id (p ∷ more) up = go (p.0 == id) refl (one_found p.0 id more up.1)
  where
    go : (t : Bool) → (p.0 == id) ≡ t → (filter (λ (q : ℕ × List ℕ). q.0 == id) more ≡ [])
        ⊎ ((b : List ℕ) × (filter (λ (q : ℕ × List ℕ). q.0 == id) more ≡ (id, b) ∷ []))
        → (filter (λ (q : ℕ × List ℕ). q.0 == id) (p ∷ more) ≡ [])
        ⊎ ((b : List ℕ) × (filter (λ (q : ℕ × List ℕ). q.0 == id) (p ∷ more) ≡ (id, b) ∷ []))
    go false is later = rw is later
    go true is later =
        let key : p.0 ≡ id = grind (arith, nat_tests) in
        rw is (inr (
          p.1,
          ap (λ (n : ℕ). (n, p.1) ∷ filter (λ (q : ℕ × List ℕ). q.0 == id) more) key
              ∙ ap (λ (rest : List (ℕ × List ℕ)). (id, p.1) ∷ rest) (none_below p.0 id more up.1 (omega arith)),
        ))

abbrev pub removed_from : ℕ → List (ℕ × List ℕ) → List (ℕ × List ℕ)
removed_from id objects = filter (λ (p : ℕ × List ℕ). not (p.0 == id)) objects

pub not_there : (id : ℕ) (objects : List (ℕ × List ℕ)) → filter (λ (p : ℕ × List ℕ). p.0 == id) objects ≡ []
    → removed_from id objects ≡ objects
not_there id [] none = refl
not_there id (p ∷ more) none = go (p.0 == id) refl none (not_there id more)
  where
    go : (t : Bool) → (p.0 == id) ≡ t
        → (if t then p ∷ filter (λ (q : ℕ × List ℕ). q.0 == id) more else filter (λ (q : ℕ × List ℕ). q.0 == id) more) ≡ []
        → (filter (λ (q : ℕ × List ℕ). q.0 == id) more ≡ [] → removed_from id more ≡ more)
        → removed_from id (p ∷ more) ≡ p ∷ more
    go true is none later = absurd (cc)
    go false is none later = rw is (ap (λ (rest : List (ℕ × List ℕ)). p ∷ rest) (later none))

pub taken_out : (id : ℕ) (objects : List (ℕ × List ℕ))
    → without_rowid (pos id) (map body_row objects) ≡ map body_row (removed_from id objects)
taken_out id [] = refl
taken_out id (p ∷ more) = go (p.0 == id) refl (taken_out id more)
  where
    go : (t : Bool) → (p.0 == id) ≡ t → without_rowid (pos id) (map body_row more) ≡ map body_row (removed_from id more)
        → without_rowid (pos id) (map body_row (p ∷ more)) ≡ map body_row (removed_from id (p ∷ more))
    go false is later = rw (spares_is id p, is) (ap (λ (rows : List Row). body_row p ∷ rows) later)
    go true is later = rw (spares_is id p, is) later

abbrev pub remove_query : Query
remove_query = record plain_query { filter = by_id; project = col 1 0 ∷ [] }

abbrev remove_edit : Trees → List Row → Edit
remove_edit db rows = edit_of db objects_table (ids_of rows) Given 0 []

pub none_permuted : {X : Type 0} (ys : List X) → IsPermutation [] ys → ys ≡ []
none_permuted [] h = refl
none_permuted (y ∷ ys) h = absurd (let e : length (y ∷ ys) ≡ 0 = length_permutation [] (y ∷ ys) h in omega arith)

rows_by : (db : Trees) (c : Bodies) (id : ℕ) (rows : List Row) → HasRows db c
    → IsAnswer remove_query (overlay db []) (id_params id) rows → edited db (remove_edit db rows) ≡ map body_row (removed_from id c.objects)
rows_by db c id rows it a = elim (one_found 0 id c.objects (rising db c it)) [
  | inl none ↦
      let kept : a.kept ≡ [] = a.distinct
      ∙ ap (map (output remove_query)) (staged ∙ ap (map (λ (p : ℕ × List ℕ). id_params id ∷ body_row p ∷ [])) none) in
      let ordered = none_permuted a.ordered (subst (λ k. IsPermutation k a.ordered) kept a.same) in
      let found : rows ≡ [] = a.shown ∙ ap (λ xs. page remove_query (id_params id) (map (λ (p : Output). p.1) xs)) ordered in
      ap (λ (rs : List Row). edited db (remove_edit db rs)) found ∙ it.objects_are ∙ ap (map body_row) (sym (not_there id c.objects none))
  | inr one ↦
      let o : Output = ([], Int (pos id) ∷ []) in
      let kept : a.kept ≡ o ∷ [] = a.distinct
      ∙ ap (map (output remove_query)) (staged ∙ ap (map (λ (p : ℕ × List ℕ). id_params id ∷ body_row p ∷ [])) one.1) in
      let ordered = one_permutation o a.ordered (subst (λ k. IsPermutation k a.ordered) kept a.same) in
      let found : rows ≡ (Int (pos id) ∷ []) ∷ [] =
      a.shown ∙ ap (λ xs. page remove_query (id_params id) (map (λ (p : Output). p.1) xs)) ordered in
      ap (λ (rs : List Row). edited db (remove_edit db rs)) found ∙ ap (λ (rs : List Row). without_rowid (pos id) rs) it.objects_are
      ∙ taken_out id c.objects
]
  where
    staged : a.staged ≡ map (λ (p : ℕ × List ℕ). id_params id ∷ body_row p ∷ []) (filter (λ (p : ℕ × List ℕ). p.0 == id) c.objects)
    staged = a.grouped ∙ rw it.objects_are (picks id [] c.objects)

pub deletes : (limit : Option ℕ) (db : Trees) (c : Bodies) (id : ℕ) (w : Written) → HasRows db c
    → Deletes (task_on limit objects_table (id_params id)) (record { lets = []; body = remove_query }) db (Ok w)
    → (w.trees 0 ≡ db 0) × (w.trees 1 ≡ map body_row (removed_from id c.objects)) × (w.trees 2 ≡ db 2)
deletes limit db c id w it h =
    let given = went h in
    let next = went given.2 in
    let app = one_step token_schema Enforced db next.0 (remove_edit db given.0) refl next.1 in
    let trees : w.trees ≡ next.0 = ap (λ (it : Written). it.trees) (same_value next.2) in (
      ap (λ (t : Trees). t 0) trees ∙ app.tables.0 (λ e. absurd (omega arith)),
      ap (λ (t : Trees). t 1) trees ∙ app.rows ∙ rows_by db c id given.0 it (given.1.answer Null),
      ap (λ (t : Trees). t 2) trees ∙ app.tables.1.1.0 (λ e. absurd (omega arith)),
    )
