use Rattle.hall_sockets.proofs.Bytes.{by_trace}
use Rattle.hall_sockets.proofs.laws.bytes_by_trace.Goals as goal

pub returns : goal.returns
returns g c = by_trace g.J.Naming.given g.J.Naming.seed
