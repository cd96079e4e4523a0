use Rattle.std.proofs.Common.{sym, ◌∙◌}
use Rattle.hall_sockets.proofs.Staying.{from-stays, gives-none, stays-gives, stays-stays, then-rests}
use Rattle.hall_sockets.proofs.seat.SocketSeat.turns.Goals as goal

pub turn-event-requires : goal.turn-event-requires
turn-event-requires g c = record {
  may =
      from-stays g.S.Socket.given (g.N.Licence.allows c.args.licence.now) c.args.self.now c.is_to_end.new.self
      (then-rests g.S.Socket.given c.args.self.now c.turns.self c.is_to_end.new.self c.turns.invariant c.is_to_end.ensures.rests)
      c.requires.may;
}

pub returns-then-is_to_end-clause-gives : goal.returns-then-is_to_end-clause-gives
returns-then-is_to_end-clause-gives g c =
    then-rests g.S.Socket.given c.args.self.now c.turns.self c.is_to_end.new.self c.turns.invariant c.is_to_end.ensures.rests

pub returns-then-is_some-clause-gives : goal.returns-then-is_some-clause-gives
returns-then-is_some-clause-gives g c =
    stays-gives g.S.Socket.given c.args.self.now c.is_to_end.new.self c.turn-event.new.self c.turn-event.result
    (then-rests g.S.Socket.given c.args.self.now c.turns.self c.is_to_end.new.self c.turns.invariant c.is_to_end.ensures.rests)
    c.turn-event.ensures

pub turns-preserved : goal.turns-preserved
turns-preserved g c =
    let none = sym c.is_some.ensures ∙ c.if-is_some.false in
    stays-stays g.S.Socket.given c.args.self.now c.is_to_end.new.self c.turn-event.new.self
    (then-rests g.S.Socket.given c.args.self.now c.turns.self c.is_to_end.new.self c.turns.invariant c.is_to_end.ensures.rests)
    (gives-none g.S.Socket.given c.is_to_end.new.self c.turn-event.new.self c.turn-event.result none c.turn-event.ensures)
