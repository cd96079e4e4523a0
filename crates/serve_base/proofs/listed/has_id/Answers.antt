use Rattle.serve_base.proofs.Storing.{any-absent, any-here}
use Rattle.serve_base.proofs.listed.has_id.Goals as goal

pub returns-in-Ok : goal.returns-in-Ok
returns-in-Ok c = λ rise. any-here c.args.listed.now c.args.id _ rise ((c.in-Ok.ensures.index rise).1 _)

pub returns-in-Err : goal.returns-in-Err
returns-in-Err c = λ rise. any-absent c.args.listed.now c.args.id (c.in-Err.ensures.index rise).1
