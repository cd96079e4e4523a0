use Rattle.hall_sockets.proofs.Staying.{and-none, stays-gives}
use Rattle.hall_sockets.proofs.seat.SocketSeat.next_event.Goals as goal

pub returns-in-None-clause-gives : goal.returns-in-None-clause-gives
returns-in-None-clause-gives g c =
    stays-gives g.S.Socket.given c.args.self.now c.turns.new.self c.leave.new.self c.leave.result c.in-None.ensures.gives
    c.leave.ensures.gives

pub returns-in-None-clause-done : goal.returns-in-None-clause-done
returns-in-None-clause-done g c = and-none c.leave.result _ _ (λ left. (left.0 c.in-None.ensures.may, left.1)) c.leave.ensures.none
