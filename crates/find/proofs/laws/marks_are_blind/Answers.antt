use Rattle.find.specs.MarkLaws.{mark_of-mask}
use Rattle.find.proofs.laws.marks_are_blind.Goals as goal

pub returns : goal.returns
returns c = mark_of-mask
