use Rattle.std.proofs.Common.{sym, ◌∙◌, ap}
use Rattle.std.specs.Prelude.{◌==◌}
use Rattle.std.specs.List.{position}
use Rattle.model_runs.proofs.Jobs.{takes_some, takes_none}
use Rattle.token.proofs.token.take_job.Goals as goal

pub returns-in_err-place : goal.returns-in_err-place
returns-in_err-place c = rw c.from_residual.ensures
    (takes_none c.args.app c.args.out.now.items
    (ap (position (λ j. c.args.app == j.0)) (sym c.deref.ensures.value) ∙ sym c.index_of_job.ensures ∙ c.in_err-place.was))

pub returns : goal.returns
returns c = rw c.remove.ensures.items
    (takes_some c.args.app c.args.out.now.items c.in_ok-place.place c.remove.result
    (ap (position (λ j. c.args.app == j.0)) (sym c.deref.ensures.value) ∙ sym c.index_of_job.ensures
    ∙ c.in_ok-place.was) c.remove.ensures.value)
