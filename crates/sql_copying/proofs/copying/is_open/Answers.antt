use Rattle.std.proofs.Common.{◌≡◌, ◌∙◌, ap, arith, inl, inr}
use Rattle.std.proofs.lemmas.Bool.{cases_Bool, both_ways}
use Rattle.sqlite_trees.specs.View.{IsClean, Releases, View}
use Rattle.sqlite_store.specs.FileStore.{view}
use Rattle.sqlite_store.specs.Laws.{shut_is_broken}
use Rattle.sql_vacuum.proofs.Quiet.{quiet_twice}
use Rattle.sql_copying.proofs.Uncopied.{released, unmarked}
use Rattle.sql_copying.proofs.copying.is_open.Goals as goal

pub returns-in-Ok-release-clause-open : goal.returns-in-Ok-release-clause-open
returns-in-Ok-release-clause-open g c = λ yes clean.
    let mid : IsClean (view c.savepoint.new.self) = omega (arith, c.release.ensures.quiet.clean, clean) in
    let sound = (c.in-Ok.ensures.ok mid).sound in
    elim (cases_Bool (view c.args.store.now).is_open) [
      | inl is ↦ is
      | inr shut ↦ absurd (both_ways _ sound (shut_is_broken c.args.store.now shut))
    ]

pub returns-in-Ok-release-clause-same : goal.returns-in-Ok-release-clause-same
returns-in-Ok-release-clause-same g c = λ yes clean none.
    let mid : IsClean (view c.savepoint.new.self) = omega (arith, c.release.ensures.quiet.clean, clean) in
    c.in-Ok-release.ensures.ok clean ∙ ap released (c.in-Ok.ensures.ok mid).is ∙ unmarked (view c.args.store.now) none

pub returns-in-Ok-release-clause-quiet : goal.returns-in-Ok-release-clause-quiet
returns-in-Ok-release-clause-quiet g c =
    quiet_twice c.args.store.now c.savepoint.new.self c.release.new.self c.savepoint.ensures.quiet c.release.ensures.quiet

pub returns-in-Err-release-clause-quiet : goal.returns-in-Err-release-clause-quiet
returns-in-Err-release-clause-quiet g c =
    quiet_twice c.args.store.now c.savepoint.new.self c.release.new.self c.savepoint.ensures.quiet c.release.ensures.quiet
