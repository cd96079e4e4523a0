use Rattle.hall_sockets.proofs.Bytes.{by_two}
use Rattle.hall_sockets.proofs.laws.bytes_of_two.Goals as goal

pub returns : goal.returns
returns g c = by_two g.I.Naming.given g.J.Naming.given g.I.Naming.seed g.J.Naming.seed
