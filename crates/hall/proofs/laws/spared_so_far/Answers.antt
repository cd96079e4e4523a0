use Rattle.hall.proofs.Giving.{proper_so}
use Rattle.hall.proofs.laws.spared_so_far.Goals as goal

pub returns : goal.returns
returns g c = λ m n w history count so has idle. (so.0.spends (proper_so g.J.Naming.was_read history so.1) w count has idle).0
