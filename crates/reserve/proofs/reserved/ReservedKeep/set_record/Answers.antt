use Rattle.std.proofs.Common.{ap, ◌∙◌}
use Rattle.keep.specs.Contents.{with_record}
use Rattle.reserve.specs.ReservedState.{ReservedState}
use Rattle.reserve.proofs.Twice.{once, twice}
use Rattle.reserve.proofs.reserved.ReservedKeep.set_record.Goals as goal

pub returns-in-Ok-clause-ok : goal.returns-in-Ok-clause-ok
returns-in-Ok-clause-ok g c =
    let was = c.self.inside in
    let new : ReservedState g.row.K.Denot g.row.R.Denot =
    record { keep = c.set_record.new.self; room = was.room; failed = was.failed; tried = c.add.new.self } in
    once g.K.Keep.terms c.args.self.now new was.keep (ap (λ (k : ReservedState g.row.K.Denot g.row.R.Denot). k.keep) c.self.view_is)
    (with_record c.args.token_record) c.in-Ok.ensures.ok

pub returns-in-Ok-set_record-clause-ok : goal.returns-in-Ok-set_record-clause-ok
returns-in-Ok-set_record-clause-ok g c =
    let was = c.self.inside in
    let mid = c.self-2.inside in
    let keep = λ (k : ReservedState g.row.K.Denot g.row.R.Denot). k.keep in
    let new : ReservedState g.row.K.Denot g.row.R.Denot =
    record { keep = c.set_record-2.new.self; room = mid.room; failed = mid.failed; tried = mid.tried } in
    twice g.K.Keep.terms c.args.self.now new was.keep (ap keep c.self.view_is)
    (with_record c.args.token_record) c.set_record.new.self mid.keep
    (ap keep c.self-2.view_is ∙ c.makes_room.ensures.same.0) c.in-Err.ensures.err c.in-Ok-set_record.ensures.ok
