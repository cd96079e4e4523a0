use Rattle.std.proofs.Common.{arith}
use Rattle.hall.proofs.laws.spared_at_first.Goals as goal

pub returns : goal.returns
returns g c = λ t held count first steady room. let none = first.1 in
    record { steady = steady; shows = first.0; ids = omega (arith, none, room) }
