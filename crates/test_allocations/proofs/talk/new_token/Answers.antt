use Rattle.std.proofs.Common.{refl}
use Rattle.model_runs.specs.Applications.{opening}
use Rattle.test_allocations.proofs.talk.new_token.Goals as goal

pub returns-in-Ok : goal.returns-in-Ok
returns-in-Ok c =
    let shown = c.in-Ok.ensures.shows c.new-keep.result.contents refl refl in
    (opening c.new-keep.result.contents, shown, c.in-Ok.ensures.jobs (opening c.new-keep.result.contents) shown)
