-- What UPDATE record does.
use Rattle.std.proofs.Common.{◌≡◌, ℕ, pos, List, [], ◌∷◌, map, Option, Ok, refl, ap, subst, ◌∙◌, arith}
use Rattle.std.specs.List.Sorted.{IsPermutation}
use Rattle.sqlite_value.specs.declared.value.Value.TheVariants.{Null, Int, Blob}
use Rattle.sqlite.specs.Order.{Row}
use Rattle.sqlite.specs.Tree.{Trees}
use Rattle.sqlite_sql.specs.Term.{lit, col}
use Rattle.sqlite.specs.Query.{Query, inner, end, IsAnswer, output, page, Output}
use Rattle.sqlite.specs.Program.{overlay}
use Rattle.sqlite_schema.specs.declared.schema.Keys.TheVariants.{Enforced}
use Rattle.sqlite.specs.Rows.{Written, Updates}
use Rattle.sqlite.specs.Edit.{Edit, edit_of, edited}
use Rattle.sqlite.specs.Rowids.TheVariants.{Given}
use Rattle.sqlite_rules.specs.Calls.{ids_of}
use Rattle.sqlite.proofs.Callers.{one_step, one_permutation}
use Rattle.sql_statements.specs.Tables.{token_schema, record_table}
use Rattle.sql_statements.specs.Store.{body_row}
use Rattle.sql_statements.proofs.Texts.{plain_query}
use Rattle.sql_statements.proofs.Insert.{went, same_value, task_on, cast_null, cast_int, same_id}

abbrev pub set_query : Query
set_query = record plain_query { from = inner 0 end; project = col 1 0 ∷ col 1 0 ∷ lit Null ∷ col 0 0 ∷ [] }

abbrev pub set_params : List ℕ → Row
set_params r = Blob r ∷ []

-- what the query gives: the rowid, and then the new row
set_rows : (db : Trees) (old : List ℕ) (new : List ℕ) (rows : List Row) → db 0 ≡ body_row (1, old) ∷ []
    → IsAnswer set_query (overlay db []) (set_params new) rows
    → rows ≡ (Int (pos 1) ∷ Int (pos 1) ∷ Null ∷ Blob new ∷ []) ∷ []
set_rows db old new rows is a =
    let params = set_params new in
    let staged : a.staged ≡ (params ∷ body_row (1, old) ∷ []) ∷ [] = a.grouped ∙ rw is in
    let o : Output = ([], Int (pos 1) ∷ Int (pos 1) ∷ Null ∷ Blob new ∷ []) in
    let kept : a.kept ≡ o ∷ [] = a.distinct ∙ ap (map (output set_query)) staged in
    let ordered = one_permutation o a.ordered (subst (λ k. IsPermutation k a.ordered) kept a.same) in
    a.shown ∙ ap (λ xs. page set_query params (map (λ (p : Output). p.1) xs)) ordered

abbrev set_edit : Trees → List Row → Edit
set_edit db rows = edit_of db record_table (ids_of rows) Given 1 rows

one_set : (db : Trees) (old : List ℕ) (new : List ℕ) → db 0 ≡ body_row (1, old) ∷ []
    → edited db (set_edit db ((Int (pos 1) ∷ Int (pos 1) ∷ Null ∷ Blob new ∷ []) ∷ [])) ≡ body_row (1, new) ∷ []
one_set db old new is = rw (is, same_id, cast_null, cast_int (pos 1))

pub updates : (limit : Option ℕ) (db : Trees) (old : List ℕ) (new : List ℕ) (w : Written) → db 0 ≡ body_row (1, old) ∷ []
    → Updates (task_on limit record_table (set_params new)) (record { lets = []; body = set_query }) (set_params new) db (Ok w)
    → (w.trees 0 ≡ body_row (1, new) ∷ []) × (w.trees 1 ≡ db 1) × (w.trees 2 ≡ db 2)
updates limit db old new w is h =
    let given = went h in
    let next = went given.2 in
    let rows = set_rows db old new given.0 is (given.1.answer Null) in
    let app = one_step token_schema Enforced db next.0 (set_edit db given.0) refl next.1 in
    let done = same_value next.2 in
    let trees : w.trees ≡ next.0 = ap (λ (it : Written). it.trees) done in (
      ap (λ (t : Trees). t 0) trees ∙ app.rows ∙ ap (λ (rs : List Row). edited db (set_edit db rs)) rows ∙ one_set db old new is,
      ap (λ (t : Trees). t 1) trees ∙ app.tables.1.0 (λ e. absurd (omega arith)),
      ap (λ (t : Trees). t 2) trees ∙ app.tables.1.1.0 (λ e. absurd (omega arith)),
    )
