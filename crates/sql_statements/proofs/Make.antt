-- What the two CREATE make of an empty database.
use Rattle.std.proofs.Common.{◌≡◌, ℕ, [], ◌∷◌, true, false, None, Ok, refl, sym, ap, subst, ◌∙◌}
use Rattle.sqlite.specs.Schema.{Schema}
use Rattle.sqlite.specs.Command.TheVariants.{CreateTable}
use Rattle.sqlite.specs.Effect.{Database}
use Rattle.sqlite.specs.Does.{Tally, lacks_sequence}
use Rattle.sqlite.specs.Change.{created, next_tree, KeepsRows}
use Rattle.sqlite.specs.State.{State, Writes, Executes}
use Rattle.sqlite_tied.specs.Compute.{everything}
use Rattle.sqlite.specs.Listing.{understood}
use Rattle.sqlite.proofs.Callers.{IsPlain, command_of, statement_of, runs_as}
use Rattle.sql_statements.specs.Tables.{record_text, objects_text, record_table, objects_table, sequence_table, no_schema, token_schema}
use Rattle.sql_statements.proofs.Texts.{record_is, objects_is, sequence_is}
use Rattle.sql_statements.proofs.Insert.{went, same_value}

abbrev pub half_schema : Schema
half_schema = record { tables = record_table ∷ []; indexes = []; views = [] }

abbrev pub two_schema : Schema
two_schema = record { tables = record_table ∷ objects_table ∷ []; indexes = []; views = [] }

first_is : (command_of (understood no_schema record_text) ≡ CreateTable)
    × (statement_of record_text (understood no_schema record_text) ≡ record_text)
unfolding understood everything
first_is = (refl, refl)

first_plain : IsPlain (understood no_schema record_text)
unfolding understood everything
first_plain = (refl, refl)

second_is : (command_of (understood half_schema objects_text) ≡ CreateTable)
    × (statement_of objects_text (understood half_schema objects_text) ≡ objects_text)
unfolding understood everything
second_is = (refl, refl)

second_plain : IsPlain (understood half_schema objects_text)
unfolding understood everything
second_plain = (refl, refl)

lacks_one : lacks_sequence two_schema ≡ true
unfolding everything
lacks_one = refl

pub makes_record : (old new : State) (count : ℕ) → old.now.schema ≡ no_schema → Executes record_text [] old new (Ok count)
    → (new.now.schema ≡ half_schema) × (new.now.trees 0 ≡ [])
makes_record old new count has h =
    let w = subst (λ t. Writes old new None CreateTable t [] count) first_is.1
    (runs_as record_text [] old new no_schema has CreateTable first_is.0 first_plain count h) in
    let all = went w.changed in
    let first = went all.1 in
    let made = first.1 in
    let both : Ok made.table ≡ Ok record_table = sym made.defined ∙ record_is in
    let same : made.table ≡ record_table = cc in
    let schema : first.0.schema ≡ half_schema = made.is ∙ ap (λ s. created s made.table) has ∙ ap (created no_schema) same in
    let plain : lacks_sequence first.0.schema ≡ false = ap lacks_sequence schema in
    let now : new.now ≡ first.0 = ap (λ (p : Tally × Database). p.1) (same_value all.2) ∙ same_value (rw plain at first.2) in (
      ap (λ (d : Database). d.schema) now ∙ schema,
      ap (λ (d : Database). d.trees 0) now
          ∙ subst (λ s. first.0.trees (next_tree s) ≡ []) has made.empty,
    )

pub makes_objects : (old new : State) (count : ℕ) → old.now.schema ≡ half_schema → Executes objects_text [] old new (Ok count)
    → (new.now.schema ≡ token_schema) × (new.now.trees 0 ≡ old.now.trees 0) × (new.now.trees 1 ≡ []) × (new.now.trees 2 ≡ [])
makes_objects old new count has h =
    let w = subst (λ t. Writes old new None CreateTable t [] count) second_is.1
    (runs_as objects_text [] old new half_schema has CreateTable second_is.0 second_plain count h) in
    let all = went w.changed in
    let first = went all.1 in
    let made = first.1 in
    let both : Ok made.table ≡ Ok (record objects_table { tree = 0 }) = sym made.defined ∙ objects_is in
    let same : made.table ≡ record objects_table { tree = 0 } = cc in
    let schema : first.0.schema ≡ two_schema = made.is ∙ ap (λ s. created s made.table) has ∙ ap (created half_schema) same in
    let lacks : lacks_sequence first.0.schema ≡ true = ap lacks_sequence schema ∙ lacks_one in
    let third = rw lacks at first.2 in
    let also : Ok third.table ≡ Ok (record sequence_table { tree = 0 }) = sym third.defined ∙ sequence_is in
    let that : third.table ≡ record sequence_table { tree = 0 } = cc in
    let now : new.now ≡ all.0 = ap (λ (p : Tally × Database). p.1) (same_value all.2) in
    let full : all.0.schema ≡ token_schema = third.is ∙ ap (λ s. created s third.table) schema ∙ ap (created two_schema) that in
    let kept = subst (λ (s : Schema). KeepsRows s.tables old.now.trees first.0.trees) has made.others in
    let again = subst (λ (s : Schema). KeepsRows s.tables first.0.trees all.0.trees) schema third.others in (
      ap (λ (d : Database). d.schema) now ∙ full,
      ap (λ (d : Database). d.trees 0) now ∙ again.0 ∙ kept.0,
      ap (λ (d : Database). d.trees 1) now ∙ again.1.0 ∙ subst (λ (s : Schema). first.0.trees (next_tree s) ≡ []) has made.empty,
      ap (λ (d : Database). d.trees 2) now ∙ subst (λ (s : Schema). all.0.trees (next_tree s) ≡ []) schema third.empty,
    )
