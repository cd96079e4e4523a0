use Rattle.std.proofs.Common.{◌≡◌}
use Rattle.std.specs.Prelude.{IsSome}
use Rattle.hall_log.specs.SeatLogs.{done_by}
use Rattle.hall.specs.Beginning.{EndsAfter}
use Rattle.hall.proofs.seat_loop.run_seat.Given as goal

abbrev pub invariant-loop : goal.invariant-loop
invariant-loop g l =
    (goal.iterator-loop g).can_next l.iterator' × (goal.iterator-loop g).is_finite l.iterator'
    × (l.port.putter.seat ≡ l.fn.port.putter.seat)
    × (g.S.Seat.number l.seat ≡ l.port.putter.seat)
    × (g.S.Seat.fixed l.seat ≡ g.S.Seat.fixed l.fn.seat)
    × IsSome l.port.message
    × EndsAfter (g.S.Seat.stands l.seat) (done_by l.port.putter)
