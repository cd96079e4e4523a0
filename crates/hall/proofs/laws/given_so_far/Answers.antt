use Rattle.hall.proofs.Giving.{proper_so}
use Rattle.hall.proofs.laws.given_so_far.Goals as goal

pub returns : goal.returns
returns g c = λ m n w history so sure shows idle. (so.0.runs sure w shows idle (proper_so g.J.Naming.was_read history so.1)).unfolds
