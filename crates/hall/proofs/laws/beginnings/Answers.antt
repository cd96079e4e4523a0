use Rattle.hall.proofs.HistoryLaws.{unfolds_before}
use Rattle.hall.proofs.laws.beginnings.Goals as goal

pub returns : goal.returns
returns c = unfolds_before
