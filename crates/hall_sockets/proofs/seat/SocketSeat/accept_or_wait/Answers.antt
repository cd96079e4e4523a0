use Rattle.std.proofs.Common.{Some}
use Rattle.hall_sockets.proofs.Staying.{rests-gives, rests-then, stays-stays}
use Rattle.hall_sockets.proofs.seat.SocketSeat.accept_or_wait.Goals as goal

pub returns-in-Some : goal.returns-in-Some
returns-in-Some g c = rests-gives g.S.Socket.given c.args.self.now c.look.new.self c.end_late.new.self
    (Some c.in-Some.event) c.look.ensures c.in-Some.ensures

pub returns-in-None : goal.returns-in-None
returns-in-None g c = stays-stays g.S.Socket.given c.args.self.now c.end_late.new.self c.accept_next.new.self
    (rests-then g.S.Socket.given c.args.self.now c.look.new.self c.end_late.new.self c.look.ensures c.in-None.ensures) c.accept_next.ensures
