-- DELETE of all objects and UPDATE of the record, in one transaction.
use Rattle.std.proofs.Common.{◌≡◌, ℕ, List, [], true, None, Ok, refl, sym, ap, subst, ◌∙◌}
use Rattle.sql_statements.specs.declared.sql.TheConstants.{CLEAR_OBJECTS, SET_RECORD}
use Rattle.sqlite.specs.Schema.{Schema}
use Rattle.sqlite.specs.Command.TheVariants.{Delete, Update}
use Rattle.sqlite.specs.Effect.{Database, IsDatabase}
use Rattle.sqlite.specs.Does.{Tally, Does}
use Rattle.sqlite.specs.Store.{Ghosts}
use Rattle.sqlite.specs.State.{State, mode_of}
use Rattle.sqlite.specs.Held.{Held, state}
use Rattle.sqlite_tied.specs.Compute.{everything}
use Rattle.sqlite.specs.Listing.{understood}
use Rattle.sqlite.proofs.Callers.{IsPlain, statement_of, runs_as}
use Rattle.sql_statements.specs.Bodies.{Bodies, bodies_after_reset}
use Rattle.sql_statements.specs.Tables.{token_schema, objects_table}
use Rattle.sql_statements.specs.Store.{HasRows}
use Rattle.sql_statements.specs.Ran.{RanPair}
use Rattle.sql_statements.proofs.Texts.{clear_is}
use Rattle.sql_statements.proofs.Insert.{went}
use Rattle.sql_statements.proofs.Steps.{concluded}
use Rattle.sql_statements.proofs.Clear.{clear_query, clears}
use Rattle.sql_statements.proofs.Set.{set_step}
use Rattle.sql_statements.proofs.Update.{set_query, set_params}
use Rattle.sql_statements.proofs.Lift.{IsStep}

clear_plain : IsPlain (understood token_schema CLEAR_OBJECTS.now)
unfolding understood everything
clear_plain = (refl, refl)

clear_does : (s : State) (text : List ℕ) (c : Bodies) (tally : Tally) (after : Database) → s.now.schema ≡ token_schema
    → HasRows s.now.trees c
    → Does s.step_limit (mode_of s) [] s.now text None (Delete 1 (record { lets = []; body = clear_query })) (Ok (tally, after))
    → (after.schema ≡ token_schema) × HasRows after.trees (record c { objects = [] })
clear_does s text c tally after has it h =
    let done = went (subst (λ (x : Schema). Does s.step_limit (mode_of s) [] (record s.now { schema = x }) text None
    (Delete 1 (record { lets = []; body = clear_query })) (Ok (tally, after))) has h) in
    let end = concluded s.step_limit objects_table [] (mode_of s) done.0 tally after done.2 in
    let all = clears s.step_limit s.now.trees c done.0 it done.1 in (
      ap (λ (d : Database). d.schema) end.0,
      record {
        record_is = ap (λ (d : Database). d.trees 0) end.0 ∙ all.0 ∙ it.record_is;
        objects_are = ap (λ (d : Database). d.trees 1) end.0 ∙ all.1;
        count_is = ap (λ (d : Database). d.trees 2) end.0 ∙ all.2 ∙ it.count_is;
        ids = tt;
      },
    )

clear_step : IsStep CLEAR_OBJECTS.now [] (Delete 1 (record { lets = []; body = clear_query })) (λ c. record c { objects = [] })
clear_step = record {
  is = clear_is;
  plain = clear_plain;
  writes = λ old new text count h. h;
  no_commit = λ e. absurd (cc);
  no_release = λ name e. absurd (cc);
  does = clear_does;
}

abbrev pub clear_text : List ℕ
clear_text = CLEAR_OBJECTS.now

abbrev pub set_text : List ℕ
set_text = SET_RECORD.now

-- both, in turn
pub reset_is : {S : Type 0} (g : Ghosts S) (old : Held S) (to : List ℕ) (c : Bodies) (db : Database)
    → (state g old).now.schema ≡ token_schema → HasRows (state g old).now.trees c
    → RanPair g CLEAR_OBJECTS.now SET_RECORD.now to old db → (db.schema ≡ token_schema) × HasRows db.trees (bodies_after_reset to c)
    × IsDatabase db
reset_is g old to c db has it ran =
    let first = clear_step in
    let second = set_step to in
    let began = state g (record old { in_transaction = true }) in
    let mid = state g ran.mid in
    let last = state g ran.last in
    let one = first.writes began mid (statement_of clear_text (understood token_schema clear_text)) ran.counts.0
    (runs_as clear_text [] began mid token_schema has
    (Delete 1 (record { lets = []; body = clear_query })) first.is first.plain ran.counts.0 ran.one) in
    let half = first.does began (statement_of clear_text (understood token_schema clear_text)) c one.tally mid.now has it one.changed in
    let two = second.writes mid last (statement_of set_text (understood token_schema set_text)) ran.counts.1
    (runs_as set_text (set_params to) mid last token_schema half.0
    (Update 0 (record { lets = []; body = set_query })) second.is second.plain ran.counts.1 ran.two) in
    let whole = second.does mid (statement_of set_text (understood token_schema set_text))
    (record c { objects = [] }) two.tally last.now half.0 half.1 two.changed in (
      ap (λ (d : Database). d.schema) ran.is
          ∙ whole.0,
      subst (λ (d : Database). HasRows d.trees (bodies_after_reset to c)) (sym ran.is) whole.1,
      subst (λ (d : Database). IsDatabase d) (sym ran.is) two.sound,
    )
