-- UPDATE record as a step of the bodies.
use Rattle.std.proofs.Common.{◌≡◌, ℕ, List, [], ◌∷◌, None, Ok, refl, ap, subst, ◌∙◌}
use Rattle.sql_statements.specs.declared.sql.TheConstants.{SET_RECORD}
use Rattle.sqlite.specs.Schema.{Schema}
use Rattle.sqlite.specs.Command.TheVariants.{Update}
use Rattle.sqlite.specs.Effect.{Database}
use Rattle.sqlite.specs.Does.{Tally, Does}
use Rattle.sqlite.specs.State.{State, mode_of}
use Rattle.sqlite_tied.specs.Compute.{everything}
use Rattle.sqlite.specs.Listing.{understood}
use Rattle.sqlite.proofs.Callers.{IsPlain}
use Rattle.sql_statements.specs.Bodies.{Bodies, bodies_with_record}
use Rattle.sql_statements.specs.Tables.{token_schema, record_table}
use Rattle.sql_statements.specs.Store.{HasRows, body_row}
use Rattle.sql_statements.proofs.Texts.{set_is}
use Rattle.sql_statements.proofs.Insert.{went}
use Rattle.sql_statements.proofs.Steps.{concluded}
use Rattle.sql_statements.proofs.Update.{set_query, set_params, updates}
use Rattle.sql_statements.proofs.Lift.{IsStep}

pub set_plain : IsPlain (understood token_schema SET_RECORD.now)
unfolding understood everything
set_plain = (refl, refl)

-- what the statement makes of the tables
pub sets_record : (r : List ℕ) (was : List ℕ) (s : State) (text : List ℕ) (tally : Tally) (after : Database)
    → s.now.schema ≡ token_schema → s.now.trees 0 ≡ body_row (1, was) ∷ []
    → Does s.step_limit (mode_of s) (set_params r) s.now text None (Update 0 (record { lets = []; body = set_query })) (Ok (tally, after))
    → (after.schema ≡ token_schema) × (after.trees 0 ≡ body_row (1, r) ∷ []) × (after.trees 1 ≡ s.now.trees 1)
    × (after.trees 2 ≡ s.now.trees 2)
sets_record r was s text tally after has is h =
    let done = went (subst (λ (x : Schema). Does s.step_limit (mode_of s) (set_params r) (record s.now { schema = x }) text None
    (Update 0 (record { lets = []; body = set_query })) (Ok (tally, after))) has h) in
    let end = concluded s.step_limit record_table (set_params r) (mode_of s) done.0 tally after done.2 in
    let all = updates s.step_limit s.now.trees was r done.0 is done.1 in (
      ap (λ (d : Database). d.schema) end.0,
      ap (λ (d : Database). d.trees 0) end.0 ∙ all.0,
      ap (λ (d : Database). d.trees 1) end.0
          ∙ all.1,
      ap (λ (d : Database). d.trees 2) end.0 ∙ all.2,
    )

set_does : (r : List ℕ) (s : State) (text : List ℕ) (c : Bodies) (tally : Tally) (after : Database) → s.now.schema ≡ token_schema
    → HasRows s.now.trees c
    → Does s.step_limit (mode_of s) (set_params r) s.now text None (Update 0 (record { lets = []; body = set_query }))
    (Ok (tally, after)) → (after.schema ≡ token_schema) × HasRows after.trees (bodies_with_record r c)
set_does r s text c tally after has it h =
    let all = sets_record r c.token_record s text tally after has it.record_is h in (
      all.0,
      record {
        record_is = all.1;
        objects_are = all.2 ∙ it.objects_are;
        count_is = all.3 ∙ it.count_is;
        ids = it.ids;
      },
    )

pub set_step : (r : List ℕ) → IsStep SET_RECORD.now (set_params r) (Update 0 (record { lets = []; body = set_query })) (bodies_with_record r)
set_step r = record {
  is = set_is;
  plain = set_plain;
  writes = λ old new text count h. h;
  no_commit = λ e. absurd (cc);
  no_release = λ name e. absurd (cc);
  does = set_does r;
}
