-- What the three statements make of a database with no tables.
use Rattle.std.proofs.Common.{◌≡◌, ℕ, pos, List, [], ◌∷◌, true, None, Option, Ok, refl, sym, ap, subst, ◌∙◌, arith}
use Rattle.sql_statements.specs.declared.sql.TheConstants.{FIRST_RECORD}
use Rattle.sqlite_value.specs.declared.value.Value.TheVariants.{Null, Int, Blob}
use Rattle.sqlite.specs.Order.{Row}
use Rattle.sqlite.specs.Tree.{Trees}
use Rattle.sqlite_sql.specs.Term.{Term, lit, col}
use Rattle.sqlite.specs.Schema.{Schema}
use Rattle.sqlite.specs.Source.TheVariants.{Values}
use Rattle.sqlite.specs.Command.TheVariants.{Insert}
use Rattle.sqlite.specs.Effect.{Database, IsDatabase}
use Rattle.sqlite.specs.Does.{Tally, Does}
use Rattle.sqlite.specs.Store.{Ghosts}
use Rattle.sqlite.specs.State.{State, mode_of, Writes}
use Rattle.sqlite.specs.Held.{Held, state}
use Rattle.sqlite_schema.specs.declared.schema.Keys.TheVariants.{Enforced}
use Rattle.sqlite.specs.Rows.{Written, Inserts}
use Rattle.sqlite.specs.Edit.{Edit, edit_of, edited}
use Rattle.sqlite.specs.Rowids.TheVariants.{Chosen}
use Rattle.sqlite_tied.specs.Compute.{everything}
use Rattle.sqlite.specs.Listing.{understood}
use Rattle.sqlite.proofs.Callers.{IsPlain, one_step, statement_of, runs_as}
use Rattle.sql_statements.specs.Bodies.{new_bodies}
use Rattle.sql_statements.specs.Tables.{record_text, objects_text, record_table, token_schema, no_schema}
use Rattle.sql_statements.specs.Store.{HasRows, body_row}
use Rattle.sql_statements.specs.Ran.{RanThree}
use Rattle.sql_statements.proofs.Texts.{first_is}
use Rattle.sql_statements.proofs.Insert.{went, same_value, task_on, cast_null, cast_int}
use Rattle.sql_statements.proofs.Steps.{concluded}
use Rattle.sql_statements.proofs.Update.{set_params}
use Rattle.sql_statements.proofs.Make.{makes_record, makes_objects}

abbrev pub first_text : List ℕ
first_text = FIRST_RECORD.now

abbrev first_terms : List Term
first_terms = lit (Int (pos 1)) ∷ lit Null ∷ col 0 0 ∷ []

first_plain : IsPlain (understood token_schema first_text)
unfolding understood everything
first_plain = (refl, refl)

abbrev first_edit : Trees → List Row → Edit
first_edit db rows = edit_of db record_table [] Chosen 0 rows

first_row : (db : Trees) (r : List ℕ) → db 0 ≡ []
    → edited db (first_edit db ((Int (pos 1) ∷ Null ∷ Blob r ∷ []) ∷ [])) ≡ body_row (1, r) ∷ []
first_row db r none = rw (none, cast_null, cast_int (pos 1)) refl

first_inserts : (limit : Option ℕ) (db : Trees) (r : List ℕ) (w : Written) → db 0 ≡ []
    → Inserts (task_on limit record_table (set_params r)) (Values first_terms 3) db (Ok w)
    → (w.trees 0 ≡ body_row (1, r) ∷ []) × (w.trees 1 ≡ db 1) × (w.trees 2 ≡ db 2)
first_inserts limit db r w none h =
    let given = went h in
    let count = went given.2 in
    let mid = went count.2 in
    let next = went mid.2 in
    let app = one_step token_schema Enforced db mid.0 (first_edit db given.0) refl mid.1 in
    let trees : w.trees ≡ mid.0 = ap (λ (it : Written). it.trees) (same_value next.2) ∙ same_value next.1 in (
      ap (λ (t : Trees). t 0) trees ∙ app.rows ∙ ap (λ (rs : List Row). edited db (first_edit db rs)) given.1.1 ∙ first_row db r none,
      ap (λ (t : Trees). t 1) trees ∙ app.tables.1.0 (λ e. absurd (omega arith)),
      ap (λ (t : Trees). t 2) trees ∙ app.tables.1.1.0 (λ e. absurd (omega arith)),
    )

first_does : (r : List ℕ) (s : State) (text : List ℕ) (tally : Tally) (after : Database) → s.now.schema ≡ token_schema → s.now.trees 0 ≡ []
    → Does s.step_limit (mode_of s) (set_params r) s.now text None (Insert 0 (Values first_terms 3)) (Ok (tally, after))
    → (after.schema ≡ token_schema) × (after.trees 0 ≡ body_row (1, r) ∷ []) × (after.trees 1 ≡ s.now.trees 1)
    × (after.trees 2 ≡ s.now.trees 2)
first_does r s text tally after has none h =
    let done = went (subst (λ (x : Schema). Does s.step_limit (mode_of s) (set_params r) (record s.now { schema = x }) text None
    (Insert 0 (Values first_terms 3)) (Ok (tally, after))) has h) in
    let end = concluded s.step_limit record_table (set_params r) (mode_of s) done.0 tally after done.2 in
    let all = first_inserts s.step_limit s.now.trees r done.0 none done.1 in (
      ap (λ (d : Database). d.schema) end.0,
      ap (λ (d : Database). d.trees 0) end.0 ∙ all.0,
      ap (λ (d : Database). d.trees 1) end.0
          ∙ all.1,
      ap (λ (d : Database). d.trees 2) end.0 ∙ all.2,
    )

-- the three in turn
pub creates_is : {S : Type 0} (g : Ghosts S) (old : Held S) (r : List ℕ) (db : Database) → (state g old).now.schema ≡ no_schema
    → RanThree g record_text objects_text first_text r old db → (db.schema ≡ token_schema) × HasRows db.trees (new_bodies r) × IsDatabase db
creates_is g old r db has ran =
    let one = makes_record (state g (record old { in_transaction = true })) (state g ran.half) ran.counts.0 has ran.one in
    let two = makes_objects (state g ran.half) (state g ran.mid) ran.counts.1 one.0 ran.two in
    let mid = state g ran.mid in
    let last = state g ran.last in
    let w : Writes mid last None (Insert 0 (Values first_terms 3)) (statement_of first_text (understood token_schema first_text))
    (set_params r) ran.counts.2 =
    runs_as first_text (set_params r) mid last token_schema two.0
    (Insert 0 (Values first_terms 3)) first_is first_plain ran.counts.2 ran.three in
    let done = first_does r mid (statement_of first_text (understood token_schema first_text)) w.tally last.now two.0
    (two.1 ∙ one.1) w.changed in
    let whole : HasRows last.now.trees (new_bodies r) = record {
      record_is = done.1;
      objects_are = done.2 ∙ two.2;
      count_is = done.3 ∙ two.3;
      ids = tt;
    } in (
      ap (λ (d : Database). d.schema) ran.is
          ∙ done.0,
      subst (λ (d : Database). HasRows d.trees (new_bodies r)) (sym ran.is) whole,
      subst (λ (d : Database). IsDatabase d) (sym ran.is) w.sound,
    )
