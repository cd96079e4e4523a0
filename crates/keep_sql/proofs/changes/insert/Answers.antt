use Rattle.std.proofs.Common.{◌∙◌}
use Rattle.sqlite.specs.Held.{state}
use Rattle.keep.specs.Contents.{with_object}
use Rattle.keep_sql_model.proofs.Calls.{unsent_if}
use Rattle.keep_sql_model.proofs.Bytes.{object_bytes}
use Rattle.keep_sql_model.proofs.Lifts.{bodies_of, changed, failed, hold_rows, insert_step}
use Rattle.keep_sql.proofs.changes.insert.Goals as goal

pub returns-in_err-bytes-clause-err : goal.returns-in_err-bytes-clause-err
returns-in_err-bytes-clause-err g c = unsent_if (state g.S.Store c.args.conn.now) (with_object c.args.object.now) _

pub returns-in-Ok-clause-ok : goal.returns-in-Ok-clause-ok
returns-in-Ok-clause-ok g c =
    changed (state g.S.Store c.args.conn.now) (state g.S.Store c.insert_object.new.conn) (with_object c.args.object.now) _
    (insert_step c.args.object.now c.as_slice.result.now c.requires c.entries-entries.ensures.object
    (object_bytes c.args.object.now _ (c.as_slice.ensures.value ∙ c.in_ok-bytes.ensures))) c.in-Ok.ensures.ok

pub returns-in-Ok-clause-id : goal.returns-in-Ok-clause-id
returns-in-Ok-clause-id g c = λ clean d h. c.in-Ok.ensures.id clean (bodies_of d) (hold_rows (state g.S.Store c.args.conn.now) d h)

pub returns-clause-err : goal.returns-clause-err
returns-clause-err g c =
    failed (state g.S.Store c.args.conn.now) (state g.S.Store c.insert_object.new.conn) (with_object c.args.object.now) _
    (insert_step c.args.object.now c.as_slice.result.now c.requires c.entries-entries.ensures.object
    (object_bytes c.args.object.now _ (c.as_slice.ensures.value ∙ c.in_ok-bytes.ensures))) c.in-Err.ensures.err
