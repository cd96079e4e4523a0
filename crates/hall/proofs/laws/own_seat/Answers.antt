use Rattle.hall.proofs.HistoryLaws.{own_seat}
use Rattle.hall.proofs.laws.own_seat.Goals as goal

pub returns : goal.returns
returns c = own_seat
