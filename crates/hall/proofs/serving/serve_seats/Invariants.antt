use Rattle.std.proofs.Common.{◌≡◌}
use Rattle.hall_log.specs.Log.{served}
use Rattle.hall.specs.Given.{IsSoFar}
use Rattle.hall.proofs.serving.serve_seats.Given as goal

abbrev pub invariant-loop : goal.invariant-loop
invariant-loop g l =
    (goal.iterator-loop g).can_next l.iterator' × (goal.iterator-loop g).is_finite l.iterator'
    × (l.serving.began.value ≡ l.fn.serving.began.value)
    × IsSoFar g.M.Machine.terms g.J.Naming.was_read
    l.serving.began.value l.serving.machine (served l.serving.server)
