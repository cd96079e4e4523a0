use Rattle.std.proofs.Common.{◌≡◌, ◌∙◌, ap, sym, Err}
use Rattle.sqlite_value.specs.declared.value.Value.TheVariants.{Blob}
use Rattle.sqlite_value.specs.Order.{column}
use Rattle.keep_sql_model.proofs.Bytes.{if_new, if_old, same_bytes}
use Rattle.keep_sql_model.proofs.Opens.{same_fault}
use Rattle.keep_sql.proofs.rows.check_body.Goals as goal

pub returns-in_err-renew_body-clause-undamaged : goal.returns-in_err-renew_body-clause-undamaged
returns-in_err-renew_body-clause-undamaged c = λ it damaged.
    let here : Blob c.in-Ok-Blob.body.now ≡ column c.args.row.now 1 = rw c.in-Ok-Blob.field-0-is at c.in-Ok-Blob.ensures.ok.1 in
    let bytes = same_bytes c.in-Ok-Blob.body.now it.bytes (column c.args.row.now 1) here it.body_is in
    let was = if_old it.bytes it.object it.is_body (rw bytes at (sym c.is_old.ensures ∙ c.if-is_old.true)) in
    c.in_err-renew_body.ensures.undamaged it.object it.is_object it.is_token was.1 (bytes ∙ was.0)
    (ap Err (same_fault c.from_residual.result _ _ c.from_residual.ensures.1 damaged))

pub returns-in_err-check_new_body-clause-undamaged : goal.returns-in_err-check_new_body-clause-undamaged
returns-in_err-check_new_body-clause-undamaged c = λ it damaged.
    let here : Blob c.in-Ok-Blob.body.now ≡ column c.args.row.now 1 = rw c.in-Ok-Blob.field-0-is at c.in-Ok-Blob.ensures.ok.1 in
    let bytes = same_bytes c.in-Ok-Blob.body.now it.bytes (column c.args.row.now 1) here it.body_is in
    let is = if_new it.bytes it.object it.is_body (rw bytes at (sym c.is_old.ensures ∙ c.if-is_old.false)) in
    c.in_err-check_new_body.ensures.undamaged it.object it.is_object it.is_token (bytes ∙ is)
    (ap Err (same_fault c.from_residual-in_err-check_new_body.result _ _ c.from_residual-in_err-check_new_body.ensures.1 damaged))
