use Rattle.std.proofs.Common.{ap, arith, length, sym, ◌∙◌}
use Rattle.hall_sockets.proofs.Staying.{empty-all, empty-more, gives-none, if-none, stays-gives, stays-stays}
use Rattle.hall_sockets.proofs.seat.SocketSeat.leave.Goals as goal

pub returns-then-is_some-clause-gives : goal.returns-then-is_some-clause-gives
returns-then-is_some-clause-gives g c =
    stays-gives g.S.Socket.given c.args.self.now c.places.self c.end-event.new.self c.end-event.result c.places.invariant.stays
    c.end-event.ensures.gives

pub places-preserved : goal.places-preserved
places-preserved g c =
    let none = sym c.is_some.ensures ∙ c.if-is_some.false in
    let still = if-none c.end-event.result _ none c.end-event.ensures.none in
    let before = c.places.invariant in
    record {
      stays = stays-stays g.S.Socket.given c.args.self.now c.places.self c.end-event.new.self before.stays
          (gives-none g.S.Socket.given c.places.self c.end-event.new.self c.end-event.result none c.end-event.ensures.gives);
      may = λ may. still.0.1 (before.may may);
      clients = still.0.0 ∙ before.clients;
      empty = empty-more c.places.self c.end-event.new.self c.places.place before.empty still.0 still.1;
    }

pub returns-clause-none : goal.returns-clause-none
returns-clause-none g c =
    let count = ap (λ k. length k.places.items) c.places.invariant.clients in (
      c.places.invariant.may,
      empty-all c.places.self c.places.place
          (omega (arith, count, c.len-place-end.ensures, c.places-test.false)) c.places.invariant.empty,
    )
