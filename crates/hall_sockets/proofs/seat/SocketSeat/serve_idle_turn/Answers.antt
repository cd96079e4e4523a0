use Rattle.hall_sockets.proofs.Staying.{stays-gives}
use Rattle.hall_sockets.proofs.seat.SocketSeat.serve_idle_turn.Goals as goal

pub returns-in-None : goal.returns-in-None
returns-in-None g c = stays-gives g.S.Socket.given c.args.self.now c.event_at.new.self c.accept_or_wait-in-None.new.self
    c.accept_or_wait-in-None.result c.in-None.ensures c.accept_or_wait-in-None.ensures
