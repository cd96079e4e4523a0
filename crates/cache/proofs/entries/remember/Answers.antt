use Rattle.std.proofs.Common.{sym}
use Rattle.cache.proofs.Remembered.{Contains-put}
use Rattle.cache.proofs.entries.remember.Goals as goal

pub returns-in-Ok : goal.returns-in-Ok
returns-in-Ok c = Contains-put c.put.result c.args.entries.now c.put.new.self c.args.id c.in-Ok.copy c.args.object.now
    (sym c.in-Ok.ensures.cases) c.put.ensures.entries c.put.ensures.err
