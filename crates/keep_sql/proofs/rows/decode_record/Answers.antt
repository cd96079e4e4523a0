use Rattle.std.proofs.Common.{◌∙◌, sym}
use Rattle.keep_sql_model.proofs.Bytes.{if_new_record, if_old_record, no_old_record, no_record, old_record_bytes, record_bytes}
use Rattle.keep_sql.proofs.rows.decode_record.Goals as goal

pub returns-in-Ok-clause-ok : goal.returns-in-Ok-clause-ok
returns-in-Ok-clause-ok c = (old_record_bytes _ _ c.in-Ok.ensures.found.1, c.in-Ok.ensures.found.0)

pub returns-in-Err-clause-undamaged : goal.returns-in-Err-clause-undamaged
returns-in-Err-clause-undamaged c = λ r is damaged.
    let was = if_old_record c.args.body.now r is (sym c.is_old.ensures ∙ c.if-is_old.true) in
    no_old_record c.in-Err.field-0 c.args.body.now r was.1 was.0 c.in-Err.ensures.exact

pub returns-in-Ok-decode-clause-ok : goal.returns-in-Ok-decode-clause-ok
returns-in-Ok-decode-clause-ok c = (record_bytes _ _ c.in-Ok-decode.ensures.found.1, c.in-Ok-decode.ensures.found.0)

pub returns-in-Err-decode-clause-undamaged : goal.returns-in-Err-decode-clause-undamaged
returns-in-Err-decode-clause-undamaged c = λ r is damaged.
    let was = if_new_record c.args.body.now r is (sym c.is_old.ensures ∙ c.if-is_old.false) in
    no_record c.in-Err-decode.field-0 c.args.body.now r was.1 was.0 c.in-Err-decode.ensures.exact
