use Rattle.hall.proofs.Giving.{proper_so}
use Rattle.hall.proofs.laws.proper_so_far.Goals as goal

pub returns : goal.returns
returns g c = proper_so g.J.Naming.was_read
