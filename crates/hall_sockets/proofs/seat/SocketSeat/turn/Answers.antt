use Rattle.hall_sockets.proofs.Staying.{from-rests, rests-gives}
use Rattle.hall_sockets.proofs.seat.SocketSeat.turn.Goals as goal

pub event_at-requires : goal.event_at-requires
event_at-requires g c = record {
  may =
      from-rests g.S.Socket.given (g.N.Licence.allows c.args.licence.now) c.args.self.now c.next_place.new.self c.next_place.ensures
      c.requires.may;
}

pub serve_idle_turn-requires : goal.serve_idle_turn-requires
serve_idle_turn-requires g c = record {
  may =
      from-rests g.S.Socket.given (g.N.Licence.allows c.args.licence.now) c.args.self.now c.next_place.new.self c.next_place.ensures
      c.requires.may;
}

pub returns-in-Some : goal.returns-in-Some
returns-in-Some g c = rests-gives g.S.Socket.given c.args.self.now c.next_place.new.self c.event_at.new.self c.event_at.result
    c.next_place.ensures c.event_at.ensures

pub returns-in-None : goal.returns-in-None
returns-in-None g c = rests-gives g.S.Socket.given c.args.self.now c.next_place.new.self c.serve_idle_turn.new.self c.serve_idle_turn.result
    c.next_place.ensures c.serve_idle_turn.ensures
