use Rattle.std.proofs.Common.{[]}
use Rattle.hall.proofs.Giving.{led_none, so_none}
use Rattle.hall.proofs.holding.hold.Goals as goal

pub open-requires-clause-served : goal.open-requires-clause-served
open-requires-clause-served g c =
    c.requires.all [] (c.args.machine, so_none g.M.Machine.terms g.J.Naming.was_read c.args.machine)

pub serve_all-requires-clause-all : goal.serve_all-requires-clause-all
serve_all-requires-clause-all g c κs within = λ now h so. c.requires.all h (now, so)

pub returns-in_default-clause-led : goal.returns-in_default-clause-led
returns-in_default-clause-led g c =
    led_none g.M.Machine.terms c.args.machine

pub returns-in-Err-clause-led : goal.returns-in-Err-clause-led
returns-in-Err-clause-led g c =
    led_none g.M.Machine.terms c.args.machine
