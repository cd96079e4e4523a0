use Rattle.std.proofs.Common.{◌≡◌}
use Rattle.hall_sockets.proofs.seat.SocketSeat.next_short.Given as goal

abbrev pub invariant-places : goal.invariant-places
invariant-places g l = (l.self.clients ≡ l.fn.self.clients) × (l.self.asked.items ≡ l.fn.self.asked.items)
