-- DELETE of one object as a step of the bodies.
use Rattle.std.proofs.Common.{◌≡◌, ℕ, List, [], None, Ok, refl, ap, subst, ◌∙◌}
use Rattle.sql_statements.specs.declared.sql.TheConstants.{REMOVE_OBJECT}
use Rattle.sqlite.specs.Schema.{Schema}
use Rattle.sqlite.specs.Command.TheVariants.{Delete}
use Rattle.sqlite.specs.Effect.{Database}
use Rattle.sqlite.specs.Does.{Tally, Does}
use Rattle.sqlite.specs.State.{State, mode_of}
use Rattle.sqlite_tied.specs.Compute.{everything}
use Rattle.sqlite.specs.Listing.{understood}
use Rattle.sqlite.proofs.Callers.{IsPlain}
use Rattle.sql_statements.specs.Bodies.{Bodies, without_body}
use Rattle.sql_statements.specs.Tables.{token_schema, objects_table}
use Rattle.sql_statements.specs.Store.{HasRows}
use Rattle.sql_statements.proofs.Texts.{remove_is}
use Rattle.sql_statements.proofs.Ids.{rises_less}
use Rattle.sql_statements.proofs.Insert.{went}
use Rattle.sql_statements.proofs.Steps.{concluded}
use Rattle.sql_statements.proofs.Remove.{remove_query, id_params, deletes}
use Rattle.sql_statements.proofs.Lift.{IsStep}

remove_plain : IsPlain (understood token_schema REMOVE_OBJECT.now)
unfolding understood everything
remove_plain = (refl, refl)

remove_does : (id : ℕ) (s : State) (text : List ℕ) (c : Bodies) (tally : Tally) (after : Database) → s.now.schema ≡ token_schema
    → HasRows s.now.trees c
    → Does s.step_limit (mode_of s) (id_params id) s.now text None (Delete 1 (record { lets = []; body = remove_query }))
    (Ok (tally, after)) → (after.schema ≡ token_schema) × HasRows after.trees (without_body id c)
remove_does id s text c tally after has it h =
    let done = went (subst (λ (x : Schema). Does s.step_limit (mode_of s) (id_params id) (record s.now { schema = x }) text None
    (Delete 1 (record { lets = []; body = remove_query })) (Ok (tally, after))) has h) in
    let end = concluded s.step_limit objects_table (id_params id) (mode_of s) done.0 tally after done.2 in
    let all = deletes s.step_limit s.now.trees c id done.0 it done.1 in (
      ap (λ (d : Database). d.schema) end.0,
      record {
        record_is = ap (λ (d : Database). d.trees 0) end.0 ∙ all.0 ∙ it.record_is;
        objects_are = ap (λ (d : Database). d.trees 1) end.0 ∙ all.1;
        count_is = ap (λ (d : Database). d.trees 2) end.0 ∙ all.2 ∙ it.count_is;
        ids = rises_less 0 c.last_id id c.objects it.ids;
      },
    )

pub remove_step : (id : ℕ) → IsStep REMOVE_OBJECT.now (id_params id) (Delete 1 (record { lets = []; body = remove_query }))
    (without_body id)
remove_step id = record {
  is = remove_is;
  plain = remove_plain;
  writes = λ old new text count h. h;
  no_commit = λ e. absurd (cc);
  no_release = λ name e. absurd (cc);
  does = remove_does id;
}
