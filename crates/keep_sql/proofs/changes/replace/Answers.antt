use Rattle.std.proofs.Common.{◌∙◌, arith}
use Rattle.sqlite.specs.State.{HasCleanDisk}
use Rattle.sqlite.specs.Held.{state}
use Rattle.keep.specs.Contents.{with_replacement}
use Rattle.keep_sql_model.proofs.Calls.{stayed_then, stayed_fails, only_read, unsent_if}
use Rattle.keep_sql_model.proofs.Bytes.{object_bytes, some_of}
use Rattle.keep_sql_model.proofs.Lifts.{bodies_of, changed, failed, hold_rows, replace_step, shows_object, stayed}
use Rattle.keep_sql.proofs.changes.replace.Goals as goal

pub returns-in_err-bytes-clause-err : goal.returns-in_err-bytes-clause-err
returns-in_err-bytes-clause-err g c = unsent_if (state g.S.Store c.args.conn.now) (with_replacement c.args.id c.args.object.now) _

pub returns-in-Err-clause-err : goal.returns-in-Err-clause-err
returns-in-Err-clause-err g c =
    only_read (state g.S.Store c.args.conn.now) (state g.S.Store c.read_row.new.conn) (with_replacement c.args.id c.args.object.now)
    (stayed (state g.S.Store c.args.conn.now) (state g.S.Store c.read_row.new.conn) c.read_row.ensures.same)

pub returns-in-Ok-replace_object-clause-ok : goal.returns-in-Ok-replace_object-clause-ok
returns-in-Ok-replace_object-clause-ok g c =
    stayed_then (state g.S.Store c.args.conn.now) (state g.S.Store c.read_row.new.conn) (state g.S.Store c.replace_object.new.conn)
    (with_replacement c.args.id c.args.object.now)
    (stayed (state g.S.Store c.args.conn.now) (state g.S.Store c.read_row.new.conn) c.read_row.ensures.same)
    (changed (state g.S.Store c.read_row.new.conn) (state g.S.Store c.replace_object.new.conn)
    (with_replacement c.args.id c.args.object.now) _
    (replace_step c.args.id c.args.object.now c.as_slice.result.now c.requires.token c.entries-entries.ensures.object
    (object_bytes c.args.object.now _ (c.as_slice.ensures.value ∙ c.in_ok-bytes.ensures))) c.in-Ok-replace_object.ensures.ok)

pub returns-in-Ok-replace_object-clause-there : goal.returns-in-Ok-replace_object-clause-there
returns-in-Ok-replace_object-clause-there g c = λ clean d h.
    let before : HasCleanDisk (state g.S.Store c.read_row.new.conn) = omega (arith, c.in-Ok-replace_object.ensures.ok.clean) in
    let was : HasCleanDisk (state g.S.Store c.args.conn.now) = omega (arith, c.read_row.ensures.same.clean) in
    some_of d c.args.id _ (shows_object (state g.S.Store c.args.conn.now) d c.args.id _ was (c.in-Ok.ensures.open before) h
    (c.in-Ok.ensures.found before (bodies_of d) (hold_rows (state g.S.Store c.args.conn.now) d h)))

pub returns-clause-err : goal.returns-clause-err
returns-clause-err g c =
    stayed_fails (state g.S.Store c.args.conn.now) (state g.S.Store c.read_row.new.conn) (state g.S.Store c.replace_object.new.conn)
    (with_replacement c.args.id c.args.object.now)
    (stayed (state g.S.Store c.args.conn.now) (state g.S.Store c.read_row.new.conn) c.read_row.ensures.same)
    (failed (state g.S.Store c.read_row.new.conn) (state g.S.Store c.replace_object.new.conn)
    (with_replacement c.args.id c.args.object.now) _
    (replace_step c.args.id c.args.object.now c.as_slice.result.now c.requires.token c.entries-entries.ensures.object
    (object_bytes c.args.object.now _ (c.as_slice.ensures.value ∙ c.in_ok-bytes.ensures))) c.in-Err-replace_object.ensures.err)
