use Rattle.hall.proofs.HistoryLaws.{unfolds_at}
use Rattle.hall.proofs.laws.answered_in_place.Goals as goal

pub returns : goal.returns
returns c = unfolds_at
