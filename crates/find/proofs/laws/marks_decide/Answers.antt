use Rattle.find.specs.CodeLaws.{codes_match-decided}
use Rattle.find.proofs.laws.marks_decide.Goals as goal

pub returns : goal.returns
returns c = codes_match-decided
