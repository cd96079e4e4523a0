use Rattle.hall_sockets.proofs.Staying.{rests-stays}
use Rattle.hall_sockets.proofs.seat.SocketSeat.accept_next.Goals as goal

pub returns-else-is_least : goal.returns-else-is_least
returns-else-is_least g c = rests-stays g.S.Socket.given c.args.self.now c.leave_to_others.new.self c.leave_to_others.new.self
    c.leave_to_others.ensures
