use Rattle.hall_sockets.proofs.Staying.{then-rests}
use Rattle.hall_sockets.proofs.seat.SocketSeat.accept_at.Goals as goal

pub returns-in-Ok-Some : goal.returns-in-Ok-Some
returns-in-Ok-Some g c = then-rests g.S.Socket.given c.args.self.now c.seat_at.new.self c.begin.new.self c.seat_at.ensures c.begin.ensures

pub returns-in-Err : goal.returns-in-Err
returns-in-Err g c = then-rests g.S.Socket.given c.args.self.now c.seat_at.new.self c.not_accepted.new.self c.seat_at.ensures
    c.not_accepted.ensures
