use Rattle.std.proofs.Common.{sym}
use Rattle.find.specs.MarkLaws.{mark_of-mask}
use Rattle.find.proofs.marks.Mark.of.Goals as goal

pub returns-clause-on_mask : goal.returns-clause-on_mask
returns-clause-on_mask c =
    rw (c.flag.ensures, c.hash_at.ensures, c.hash_at-2.ensures, c.hash_at-3.ensures, c.hash_at-4.ensures, c.hash_at-5.ensures, c.codes_of.ensures)
    (sym (mark_of-mask c.args.object.now))
