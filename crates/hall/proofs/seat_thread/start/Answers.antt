use denote.Exit as exits
use denote.Param.{param}
use denote.Param.Send.{param_send, arg_send}
use Rattle.hall_channels.proofs.Crosses.{port_send}
use Rattle.hall.proofs.seat_thread.start.Lts as lts
use Rattle.hall.proofs.seat_thread.start.Goals as goal

pub spawn_seat-requires-send-E : goal.spawn_seat-requires-send-E
spawn_seat-requires-send-E g c κs within =
    param_send 1 (lts.arg-9-1 g.row.J g.row.S g.row.G g.row.R g.J.laws g.S.laws g.G.laws g.R.laws g.R.copy g.J.Naming
    g.J.Naming-dict g.S.Seat g.S.Seat-dict g.G.Gate g.G.Gate-dict g.R.Threads g.R.Threads-dict g.R.Wait g.R.Wait-dict g.R.Clock
    g.R.Clock-dict g.R.Clone g.R.Clone-dict g.S.Destruct-dict g.G.Destruct-dict κs)
    (arg_send _ exits.no _ (port_send (param 0 g.row.J) g.J.Naming))
