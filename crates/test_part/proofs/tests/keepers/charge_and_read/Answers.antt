use Rattle.std.proofs.Common.{Some, ◌∙◌, ap}
use Rattle.pin_record.specs.Records.{charged}
use Rattle.keep.specs.Contents.{with_record}
use Rattle.test_part.proofs.tests.keepers.charge_and_read.Goals as goal

-- what was charged is what a crash leaves, whatever was read after it
pub returns-clause-crash : goal.returns-clause-crash
returns-clause-crash g c = λ d left h may.
    let changed = c.in_ok-set_record.ensures.ok in
    changed.crash d left h (c.object.ensures.same.crash (with_record _ d) left (changed.held d h) may)
    ∙ ap (λ r. Some (with_record r d)) (c.begin_check.ensures ∙ ap (λ r. charged r c.args.who) (c.get_record-record.ensures d h))
