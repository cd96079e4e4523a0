use Rattle.std.proofs.Common.{ap, ◌∙◌}
use Rattle.keep.specs.Contents.{without_object}
use Rattle.reserve.specs.ReservedState.{ReservedState}
use Rattle.reserve.proofs.Twice.{once, twice}
use Rattle.reserve.proofs.reserved.ReservedKeep.remove.Goals as goal

pub returns-in-Ok-clause-ok : goal.returns-in-Ok-clause-ok
returns-in-Ok-clause-ok g c =
    let was = c.self.inside in
    let new : ReservedState g.row.K.Denot g.row.R.Denot =
    record { keep = c.remove.new.self; room = was.room; failed = was.failed; tried = c.add.new.self } in
    once g.K.Keep.terms c.args.self.now new was.keep (ap (λ (k : ReservedState g.row.K.Denot g.row.R.Denot). k.keep) c.self.view_is)
    (without_object c.args.id) c.in-Ok.ensures.ok

pub returns-in-Ok-remove-clause-ok : goal.returns-in-Ok-remove-clause-ok
returns-in-Ok-remove-clause-ok g c =
    let was = c.self.inside in
    let mid = c.self-2.inside in
    let keep = λ (k : ReservedState g.row.K.Denot g.row.R.Denot). k.keep in
    let new : ReservedState g.row.K.Denot g.row.R.Denot =
    record { keep = c.remove-2.new.self; room = mid.room; failed = mid.failed; tried = mid.tried } in
    twice g.K.Keep.terms c.args.self.now new was.keep (ap keep c.self.view_is) (without_object c.args.id) c.remove.new.self mid.keep
    (ap keep c.self-2.view_is ∙ c.makes_room.ensures.same.0) c.in-Err.ensures.err c.in-Ok-remove.ensures.ok
