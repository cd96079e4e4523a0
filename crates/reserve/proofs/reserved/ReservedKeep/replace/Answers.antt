use Rattle.std.proofs.Common.{ap, ◌∙◌}
use Rattle.keep.specs.Contents.{with_replacement}
use Rattle.reserve.specs.ReservedState.{ReservedState}
use Rattle.reserve.proofs.Twice.{once}
use Rattle.reserve.proofs.reserved.ReservedKeep.replace.Goals as goal

pub returns-in-Ok-clause-ok : goal.returns-in-Ok-clause-ok
returns-in-Ok-clause-ok g c =
    let was = c.self.inside in
    let new : ReservedState g.row.K.Denot g.row.R.Denot =
    record { keep = c.replace.new.self; room = was.room; failed = was.failed; tried = was.tried } in
    once g.K.Keep.terms c.args.self.now new was.keep
    (ap (λ (k : ReservedState g.row.K.Denot g.row.R.Denot). k.keep) c.self.view_is ∙ c.admit.ensures.keep)
    (with_replacement c.args.id c.args.object.now) c.in-Ok.ensures.ok
