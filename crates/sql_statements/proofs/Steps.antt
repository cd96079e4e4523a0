-- The insert, as a step of the bodies.
use Rattle.std.proofs.Common.{◌≡◌, ℕ, pos, ℤ, ◌+◌, List, [], ◌∷◌, length, Some, None, Option, Ok, Err, Result, refl, ap, subst, ◌∙◌, arith}
use Rattle.sqlite_value.specs.declared.value.Value.TheVariants.{Blob}
use Rattle.sqlite.specs.Order.{Row}
use Rattle.sqlite.specs.Table.{Table}
use Rattle.sqlite.specs.Schema.{Schema}
use Rattle.sqlite.specs.Source.TheVariants.{Values}
use Rattle.sqlite.specs.Command.TheVariants.{Insert}
use Rattle.sqlite.specs.Effect.{Database}
use Rattle.sqlite.specs.declared.run.Mode.{Mode}
use Rattle.sqlite.specs.Rows.{Written}
use Rattle.sqlite.specs.Does.{Tally, Does, Concludes}
use Rattle.std.specs.Prelude.{unwrap_or, OnOk}
use Rattle.sql_statements.specs.declared.sql.TheConstants.{INSERT_OBJECT}
use Rattle.sqlite.specs.declared.error.Error.{Error}
use Rattle.sqlite.specs.State.{State, mode_of, Writes, Executes}
use Rattle.sqlite_tied.specs.Compute.{everything}
use Rattle.sqlite.specs.Listing.{understood}
use Rattle.sqlite.proofs.Callers.{IsPlain, statement_of, runs_as}
use Rattle.sql_statements.specs.Bodies.{Bodies, with_body}
use Rattle.sql_statements.specs.Tables.{token_schema, objects_table}
use Rattle.sql_statements.specs.Store.{IsAtRows, HasRows}
use Rattle.sql_statements.proofs.Texts.{insert_is}
use Rattle.sql_statements.proofs.Ids.{rises_more}
use Rattle.sql_statements.proofs.Insert.{went, same_value, task_on, terms, inserts}
use Rattle.sql_statements.proofs.Lift.{IsStep}

pub concluded : (limit : Option ℕ) (table : Table) (params : Row) (mode : Mode) (w : Written) (tally : Tally) (after : Database)
    → Concludes (task_on limit table params) mode None w (Ok (tally, after))
    → (after ≡ record { schema = token_schema; trees = w.trees }) × (tally.last ≡ w.last) × (tally.rows ≡ Some (length w.rows))
concluded limit table params mode w tally after h =
    let both = same_value (went (went h).2).2 in
    (ap (λ (p : Tally × Database). p.1) both, ap (λ (p : Tally × Database). p.0.last) both, ap (λ (p : Tally × Database). p.0.rows) both)

insert_plain : IsPlain (understood token_schema INSERT_OBJECT.now)
unfolding understood everything
insert_plain = (refl, refl)

pub insert_does : (body : List ℕ) (s : State) (text : List ℕ) (c : Bodies) (tally : Tally) (after : Database)
    → s.now.schema ≡ token_schema → HasRows s.now.trees c
    → Does s.step_limit (mode_of s) (Blob body ∷ []) s.now text None (Insert 1 (Values terms 3)) (Ok (tally, after))
    → (after.schema ≡ token_schema) × HasRows after.trees (with_body body c)
insert_does body s text c tally after has it h =
    let done = went (subst (λ (x : Schema). Does s.step_limit (mode_of s) (Blob body ∷ []) (record s.now { schema = x }) text None
    (Insert 1 (Values terms 3)) (Ok (tally, after))) has h) in
    let end = concluded s.step_limit objects_table (Blob body ∷ []) (mode_of s) done.0 tally after done.2 in
    let all = inserts s.step_limit s.now.trees c body done.0 it done.1 in (
      ap (λ (d : Database). d.schema) end.0,
      record {
        record_is = ap (λ (d : Database). d.trees 0) end.0 ∙ all.0 ∙ it.record_is;
        objects_are = ap (λ (d : Database). d.trees 1) end.0 ∙ all.1;
        count_is = ap (λ (d : Database). d.trees 2) end.0 ∙ all.2;
        ids = rises_more 0 c.last_id c.objects body (omega arith) it.ids;
      },
    )

pub insert_step : (body : List ℕ) → IsStep INSERT_OBJECT.now (Blob body ∷ []) (Insert 1 (Values terms 3)) (λ c. with_body body c)
insert_step body = record {
  is = insert_is;
  plain = insert_plain;
  writes = λ old new text count h. h;
  no_commit = λ e. absurd (cc);
  no_release = λ name e. absurd (cc);
  does = insert_does body;
}

abbrev pub insert_text : List ℕ
insert_text = INSERT_OBJECT.now

insert_tally : (body : List ℕ) (s : State) (text : List ℕ) (c : Bodies) (tally : Tally) (after : Database)
    → s.now.schema ≡ token_schema → HasRows s.now.trees c
    → Does s.step_limit (mode_of s) (Blob body ∷ []) s.now text None (Insert 1 (Values terms 3)) (Ok (tally, after))
    → tally.last ≡ Some (pos (c.last_id + 1))
insert_tally body s text c tally after has it h =
    let done = went (subst (λ (x : Schema). Does s.step_limit (mode_of s) (Blob body ∷ []) (record s.now { schema = x }) text None
    (Insert 1 (Values terms 3)) (Ok (tally, after))) has h) in
    let end = concluded s.step_limit objects_table (Blob body ∷ []) (mode_of s) done.0 tally after done.2 in
    let all = inserts s.step_limit s.now.trees c body done.0 it done.1 in
    end.1 ∙ all.3

-- the rowid that an insert gave
pub insert_id : (body : List ℕ) (old new : State) (c : Bodies) (r : Result ℕ Error) → IsAtRows old c
    → Executes insert_text (Blob body ∷ []) old new r → OnOk r (new.last_rowid ≡ pos (c.last_id + 1))
insert_id body old new c (Err e) at h = tt
insert_id body old new c (Ok count) at h =
    let w : Writes old new None (Insert 1 (Values terms 3)) (statement_of insert_text (understood token_schema insert_text))
    (Blob body ∷ []) count =
    runs_as insert_text (Blob body ∷ []) old new token_schema at.schema (Insert 1 (Values terms 3)) insert_is insert_plain count h in
    w.last_rowid ∙ ap (λ (t : Option ℤ). unwrap_or t old.last_rowid)
    (insert_tally body old (statement_of insert_text
    (understood token_schema insert_text)) c w.tally new.now at.schema at.stores w.changed)
