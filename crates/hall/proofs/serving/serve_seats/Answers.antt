use Rattle.hall.proofs.Giving.{so_led}
use Rattle.hall.proofs.serving.serve_seats.Goals as goal

pub returns-then-ended-ge4-clause-led : goal.returns-then-ended-ge4-clause-led
returns-then-ended-ge4-clause-led g c =
    so_led g.M.Machine.terms g.J.Naming.was_read _ _ _
    c.loop.invariant.3

pub returns-in-None-take-clause-led : goal.returns-in-None-take-clause-led
returns-in-None-take-clause-led g c =
    so_led g.M.Machine.terms g.J.Naming.was_read _ _ _
    c.loop.invariant.3

pub returns-then-not-whole-clause-led : goal.returns-then-not-whole-clause-led
returns-then-not-whole-clause-led g c =
    so_led g.M.Machine.terms g.J.Naming.was_read _ _ _
    c.loop.invariant.3
