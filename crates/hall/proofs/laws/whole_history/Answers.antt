use Rattle.hall.proofs.MoreHistory.{replied_is}
use Rattle.hall.proofs.laws.whole_history.Goals as goal

pub returns : goal.returns
returns g c = record {
  unfolds = λ m n w history whole. whole.unfolds;
  told = λ m n w history whole. replied_is w history whole.unfolds;
}
