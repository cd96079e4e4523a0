use Rattle.std.proofs.Common.{arith}
use Rattle.sqlite.specs.State.{HasCleanDisk}
use Rattle.sqlite.specs.Held.{state}
use Rattle.keep.specs.Contents.{without_object}
use Rattle.keep_sql_model.proofs.Calls.{stayed_then, stayed_fails, only_read}
use Rattle.keep_sql_model.proofs.Bytes.{some_of}
use Rattle.keep_sql_model.proofs.Lifts.{bodies_of, changed, failed, hold_rows, remove_step, shows_object, stayed}
use Rattle.keep_sql.proofs.changes.remove.Goals as goal

pub returns-in-Err-clause-err : goal.returns-in-Err-clause-err
returns-in-Err-clause-err g c =
    only_read (state g.S.Store c.args.conn.now) (state g.S.Store c.read_row.new.conn) (without_object c.args.id)
    (stayed (state g.S.Store c.args.conn.now) (state g.S.Store c.read_row.new.conn) c.read_row.ensures.same)

pub returns-in-Ok-remove_object-clause-ok : goal.returns-in-Ok-remove_object-clause-ok
returns-in-Ok-remove_object-clause-ok g c =
    stayed_then (state g.S.Store c.args.conn.now) (state g.S.Store c.read_row.new.conn) (state g.S.Store c.remove_object.new.conn)
    (without_object c.args.id) (stayed (state g.S.Store c.args.conn.now) (state g.S.Store c.read_row.new.conn) c.read_row.ensures.same)
    (changed (state g.S.Store c.read_row.new.conn) (state g.S.Store c.remove_object.new.conn) (without_object c.args.id) _
    (remove_step c.args.id) c.in-Ok-remove_object.ensures.ok)

pub returns-in-Ok-remove_object-clause-there : goal.returns-in-Ok-remove_object-clause-there
returns-in-Ok-remove_object-clause-there g c = λ clean d h.
    let before : HasCleanDisk (state g.S.Store c.read_row.new.conn) = omega (arith, c.in-Ok-remove_object.ensures.ok.clean) in
    let was : HasCleanDisk (state g.S.Store c.args.conn.now) = omega (arith, c.read_row.ensures.same.clean) in
    some_of d c.args.id _ (shows_object (state g.S.Store c.args.conn.now) d c.args.id _ was (c.in-Ok.ensures.open before) h
    (c.in-Ok.ensures.found before (bodies_of d) (hold_rows (state g.S.Store c.args.conn.now) d h)))

pub returns-clause-err : goal.returns-clause-err
returns-clause-err g c =
    stayed_fails (state g.S.Store c.args.conn.now) (state g.S.Store c.read_row.new.conn) (state g.S.Store c.remove_object.new.conn)
    (without_object c.args.id) (stayed (state g.S.Store c.args.conn.now) (state g.S.Store c.read_row.new.conn) c.read_row.ensures.same)
    (failed (state g.S.Store c.read_row.new.conn) (state g.S.Store c.remove_object.new.conn) (without_object c.args.id) _
    (remove_step c.args.id) c.in-Err-remove_object.ensures.err)
