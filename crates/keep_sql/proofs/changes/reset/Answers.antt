use Rattle.std.proofs.Common.{◌∙◌}
use Rattle.sqlite.specs.Held.{state}
use Rattle.keep.specs.Contents.{after_reset}
use Rattle.keep_sql_model.proofs.Calls.{unsent_if}
use Rattle.keep_sql_model.proofs.Bytes.{record_bytes}
use Rattle.keep_sql_model.proofs.Lifts.{changed, failed, reset_step}
use Rattle.keep_sql.proofs.changes.reset.Goals as goal

pub returns-in_err-bytes-clause-err : goal.returns-in_err-bytes-clause-err
returns-in_err-bytes-clause-err g c = unsent_if (state g.S.Store c.args.conn.now) (after_reset c.args.to) _

pub returns-in-Ok-true-clause-ok : goal.returns-in-Ok-true-clause-ok
returns-in-Ok-true-clause-ok g c =
    changed (state g.S.Store c.args.conn.now) (state g.S.Store c.reset_rows.new.conn) (after_reset c.args.to) _
    (reset_step c.args.to c.as_slice.result.now c.in_ok-bytes.ensures.fits
    (record_bytes c.args.to _ (c.as_slice.ensures.value ∙ c.in_ok-bytes.ensures.bytes)))
    (c.in-Ok-true.ensures.made c.in-Ok-true.field-0-test)

pub returns-in-Ok-false-clause-err : goal.returns-in-Ok-false-clause-err
returns-in-Ok-false-clause-err g c =
    failed (state g.S.Store c.args.conn.now) (state g.S.Store c.reset_rows.new.conn) (after_reset c.args.to) _
    (reset_step c.args.to c.as_slice.result.now c.in_ok-bytes.ensures.fits
    (record_bytes c.args.to _ (c.as_slice.ensures.value ∙ c.in_ok-bytes.ensures.bytes)))
    (c.in-Ok-false.ensures.refused c.in-Ok-false.field-0-test)

pub returns-clause-err : goal.returns-clause-err
returns-clause-err g c = failed (state g.S.Store c.args.conn.now) (state g.S.Store c.reset_rows.new.conn) (after_reset c.args.to) _
    (reset_step c.args.to c.as_slice.result.now c.in_ok-bytes.ensures.fits
    (record_bytes c.args.to _ (c.as_slice.ensures.value ∙ c.in_ok-bytes.ensures.bytes))) c.in-Err.ensures.err
