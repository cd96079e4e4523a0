use Rattle.hall.proofs.HistoryLaws.{told_trace}
use Rattle.hall.proofs.laws.told_by_trace.Goals as goal

pub returns : goal.returns
returns c = told_trace
