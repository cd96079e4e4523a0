use Rattle.std.proofs.Common.{◌∙◌}
use Rattle.sqlite.specs.Held.{state}
use Rattle.keep.specs.Contents.{with_record}
use Rattle.keep_sql_model.proofs.Calls.{unsent_if}
use Rattle.keep_sql_model.proofs.Bytes.{record_bytes}
use Rattle.keep_sql_model.proofs.Lifts.{changed, failed, record_step}
use Rattle.keep_sql.proofs.changes.set_record.Goals as goal

pub returns-in_err-bytes-clause-err : goal.returns-in_err-bytes-clause-err
returns-in_err-bytes-clause-err g c = unsent_if (state g.S.Store c.args.conn.now) (with_record c.args.to) _

pub returns-in-Ok-clause-ok : goal.returns-in-Ok-clause-ok
returns-in-Ok-clause-ok g c =
    changed (state g.S.Store c.args.conn.now) (state g.S.Store c.put_record.new.conn) (with_record c.args.to) _
    (record_step c.args.to c.as_slice.result.now c.in_ok-bytes.ensures.fits
    (record_bytes c.args.to _ (c.as_slice.ensures.value ∙ c.in_ok-bytes.ensures.bytes))) c.in-Ok.ensures.ok

pub returns-clause-err : goal.returns-clause-err
returns-clause-err g c = failed (state g.S.Store c.args.conn.now) (state g.S.Store c.put_record.new.conn) (with_record c.args.to) _
    (record_step c.args.to c.as_slice.result.now c.in_ok-bytes.ensures.fits
    (record_bytes c.args.to _ (c.as_slice.ensures.value ∙ c.in_ok-bytes.ensures.bytes))) c.in-Err.ensures.err
