use Rattle.std.proofs.Common.{arith}
use Rattle.sqlite.specs.State.{HasCleanDisk}
use Rattle.sqlite.specs.Held.{state}
use Rattle.keep_sql_model.proofs.Lifts.{bodies_of, hold_rows, shows_object, stayed}
use Rattle.keep_sql.proofs.changes.read.Goals as goal

pub returns-in-Ok-clause-found : goal.returns-in-Ok-clause-found
returns-in-Ok-clause-found g c = λ clean d h.
    let was : HasCleanDisk (state g.S.Store c.args.conn.now) = omega (arith, c.read_row.ensures.same.clean) in
    c.stored_object.ensures.found d c.args.id
    (shows_object (state g.S.Store c.args.conn.now) d c.args.id _ was (c.in-Ok.ensures.open clean) h
    (c.in-Ok.ensures.found clean (bodies_of d) (hold_rows (state g.S.Store c.args.conn.now) d h)))

pub returns-in-Ok-clause-same : goal.returns-in-Ok-clause-same
returns-in-Ok-clause-same g c = stayed (state g.S.Store c.args.conn.now) (state g.S.Store c.read_row.new.conn) c.read_row.ensures.same

pub returns-in-Err-clause-same : goal.returns-in-Err-clause-same
returns-in-Err-clause-same g c = stayed (state g.S.Store c.args.conn.now) (state g.S.Store c.read_row.new.conn) c.read_row.ensures.same
