-- What DELETE of all objects does.
use Rattle.std.proofs.Common.{◌≡◌, ◌⊎◌, inl, inr, ℕ, zero, suc, ◌<◌, length, get_or, pos, ℤ, ◌==◌, List, [], ◌∷◌, map, Bool, true, false, Contains, Option, Ok, refl, sym, ap, subst, ◌∙◌, arith}
use Rattle.std.proofs.lemmas.Bool.Decides.{nat_tests}
use Rattle.std.specs.List.{flat_map}
use Rattle.std.specs.List.Sorted.{IsPermutation}
use Rattle.std.proofs.lemmas.List.Sorted.{Contains-permutation}
use Rattle.sqlite_value.specs.declared.value.Value.TheVariants.{Null, Int}
use Rattle.sqlite.specs.Order.{Row}
use Rattle.sqlite_sql.specs.Term.{col, Env}
use Rattle.sqlite.specs.Query.{Query, IsAnswer, output, Output}
use Rattle.sqlite.specs.Program.{overlay}
use Rattle.sqlite.specs.Tree.{Trees, has_rowid, without_rowid, rowid}
use Rattle.sqlite_schema.specs.declared.schema.Keys.TheVariants.{Enforced}
use Rattle.sqlite.specs.Rows.{Written, Deletes}
use Rattle.sqlite.specs.Edit.{edit_of, edited, without_all, id_in}
use Rattle.sqlite.specs.Rowids.TheVariants.{Given}
use Rattle.sqlite_rules.specs.Calls.{ids_of}
use Rattle.sqlite.proofs.Callers.{one_step}
use Rattle.sql_statements.specs.Bodies.{Bodies}
use Rattle.sql_statements.specs.Tables.{token_schema, objects_table}
use Rattle.sql_statements.specs.Store.{HasRows, body_row}
use Rattle.sql_statements.proofs.Texts.{plain_query}
use Rattle.sql_statements.proofs.Remove.{spares_is}
use Rattle.sql_statements.proofs.Insert.{went, same_value, task_on}

abbrev pub clear_query : Query
clear_query = record plain_query { project = col 1 0 ∷ [] }

abbrev shown_id : ℕ × List ℕ → Output
shown_id p = ([], Int (pos p.0) ∷ [])

same_number : (n : ℕ) → (n == n) ≡ true
same_number n = grind (arith, nat_tests)

-- membership, by cases on the list
abbrev Among : ℤ → List ℤ → Type 0
Among i [] = ⊥
Among i (j ∷ ids) = (j ≡ i) ⊎ Among i ids

-- a row whose id is among those taken out is gone
drops_first : (ids : List ℤ) (i : ℤ) (r : Row) (rows : List Row) → Among i ids → has_rowid i r ≡ true
    → without_all (r ∷ rows) ids ≡ without_all rows ids
drops_first [] i r rows there is = absurd there
drops_first (j ∷ ids) i r rows there is = go (has_rowid j r) refl there (λ more. drops_first ids i r (without_rowid j rows) more is)
  where
    go : (t : Bool) → has_rowid j r ≡ t → (j ≡ i) ⊎ Among i ids
        → (Among i ids → without_all (r ∷ without_rowid j rows) ids ≡ without_all (without_rowid j rows) ids)
        → without_all (r ∷ rows) (j ∷ ids) ≡ without_all rows (j ∷ ids)
    go true has there later = rw has
    go false has (inl same) later = absurd (let no : false ≡ true = sym has ∙ ap (λ (k : ℤ). has_rowid k r) same ∙ is in cc)
    go false has (inr more) later = rw has (later more)

all_gone : (ids : List ℤ) (objects : List (ℕ × List ℕ)) → ((p : ℕ × List ℕ) → Contains objects p → Among (pos p.0) ids)
    → without_all (map body_row objects) ids ≡ []
all_gone ids [] each = none_gone ids
  where
    none_gone : (ids : List ℤ) → without_all [] ids ≡ []
    none_gone [] = refl
    none_gone (j ∷ ids) = none_gone ids
all_gone ids (p ∷ more) each =
    drops_first ids (pos p.0) (body_row p) (map body_row more) (each p (0, omega arith, refl)) (spares_is p.0 p ∙ same_number p.0)
    ∙ all_gone ids more (λ q h. each q (suc h.0, (let low = h.1 in omega arith), h.2))

all_staged : (params : Row) (objects : List (ℕ × List ℕ))
    → flat_map (λ (r : Row). (params ∷ r ∷ []) ∷ []) (map body_row objects) ≡ map (λ (p : ℕ × List ℕ). params ∷ body_row p ∷ []) objects
all_staged params [] = refl
all_staged params (p ∷ more) = ap (λ (rest : List Env). (params ∷ body_row p ∷ []) ∷ rest) (all_staged params more)

kept_ids : (params : Row) (objects : List (ℕ × List ℕ))
    → map (output clear_query) (map (λ (p : ℕ × List ℕ). params ∷ body_row p ∷ []) objects) ≡ map shown_id objects
kept_ids params [] = refl
kept_ids params (p ∷ more) = ap (λ (rest : List Output). shown_id p ∷ rest) (kept_ids params more)

among_of : (os : List Output) (p : ℕ × List ℕ) (n : ℕ) → n < length os → get_or os n (shown_id p) ≡ shown_id p
    → Among (pos p.0) (ids_of (map (λ (o : Output). o.1) os))
among_of [] p n low h = absurd (omega arith)
among_of (o ∷ os) p zero low h = inl (ap (λ (x : Output). id_in (rowid x.1)) h)
among_of (o ∷ os) p (suc n) low h = inr (among_of os p n (omega arith) h)

shown_at : (objects : List (ℕ × List ℕ)) (p : ℕ × List ℕ) (n : ℕ) → n < length objects → get_or objects n p ≡ p
    → Contains (map shown_id objects) (shown_id p)
shown_at [] p n low h = absurd (omega arith)
shown_at (q ∷ more) p zero low h = (0, omega arith, ap shown_id h)
shown_at (q ∷ more) p (suc n) low h = let there = shown_at more p n (omega arith) h in
    (suc there.0, (let within = there.1 in omega arith), there.2)

rows_all : (db : Trees) (c : Bodies) (rows : List Row) → HasRows db c → IsAnswer clear_query (overlay db []) [] rows
    → edited db (edit_of db objects_table (ids_of rows) Given 0 []) ≡ []
rows_all db c rows it a =
    let staged : a.staged ≡ map (λ (p : ℕ × List ℕ). [] ∷ body_row p ∷ []) c.objects =
    a.grouped ∙ rw it.objects_are (all_staged [] c.objects) in
    let kept : a.kept ≡ map shown_id c.objects = a.distinct ∙ ap (map (output clear_query)) staged ∙ kept_ids [] c.objects in
    let moved = subst (λ k. IsPermutation k a.ordered) kept a.same in
    ap (λ (rs : List Row). without_all (db 1) (ids_of rs)) a.shown
    ∙ ap (λ (rs : List Row). without_all rs (ids_of (map (λ (o : Output). o.1) a.ordered))) it.objects_are
    ∙ all_gone (ids_of (map (λ (o : Output). o.1) a.ordered)) c.objects (λ p h.
    let there = Contains-permutation (map shown_id c.objects) a.ordered (shown_id p) moved (shown_at c.objects p h.0 h.1 h.2) in
    among_of a.ordered p there.0 there.1 there.2)

pub clears : (limit : Option ℕ) (db : Trees) (c : Bodies) (w : Written) → HasRows db c
    → Deletes (task_on limit objects_table []) (record { lets = []; body = clear_query }) db (Ok w)
    → (w.trees 0 ≡ db 0) × (w.trees 1 ≡ []) × (w.trees 2 ≡ db 2)
clears limit db c w it h =
    let given = went h in
    let next = went given.2 in
    let app = one_step token_schema Enforced db next.0 (edit_of db objects_table (ids_of given.0) Given 0 []) refl next.1 in
    let trees : w.trees ≡ next.0 = ap (λ (it : Written). it.trees) (same_value next.2) in (
      ap (λ (t : Trees). t 0) trees ∙ app.tables.0 (λ e. absurd (omega arith)),
      ap (λ (t : Trees). t 1) trees ∙ app.rows ∙ rows_all db c given.0 it (given.1.answer Null),
      ap (λ (t : Trees). t 2) trees ∙ app.tables.1.1.0 (λ e. absurd (omega arith)),
    )
