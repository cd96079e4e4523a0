use Rattle.std.specs.Prelude.{◌≡◌, ℕ, ◌<◌}
use Rattle.hall_sockets.specs.Staying.{IsEmptyAt, MayEnd, SeatStays}
use Rattle.hall_sockets.proofs.seat.SocketSeat.leave.Given as goal

abbrev pub invariant-places : goal.invariant-places
invariant-places g l = record {
  stays : SeatStays g.S.Socket.given l.fn.self l.self;
  may : MayEnd l.fn.self → MayEnd l.self;
  clients : l.self.clients ≡ l.fn.self.clients;
  empty : (j : ℕ) → j < l.place → IsEmptyAt l.self j;
}
