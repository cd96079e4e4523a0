use Rattle.hall_sockets.specs.Staying.{SeatStays}
use Rattle.hall_sockets.proofs.seat.SocketSeat.turns.Given as goal

abbrev pub invariant-turns : goal.invariant-turns
invariant-turns g l = SeatStays g.S.Socket.given l.fn.self l.self
