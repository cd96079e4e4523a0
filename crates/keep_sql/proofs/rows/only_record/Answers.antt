use Rattle.std.proofs.Common.{◌≡◌, ◌∙◌, sym, ap, subst, List, ℕ}
use Rattle.sqlite_value.specs.declared.value.Value.TheVariants.{Blob}
use Rattle.sqlite_value.specs.Order.{Row, column}
use Rattle.keep_sql_model.specs.Formats.{IsRecordBody}
use Rattle.keep_sql_model.specs.Renewals.{FindsRecord, IsStoredAs}
use Rattle.keep_sql_model.proofs.Bytes.{one_row, same_bytes, same_row}
use Rattle.keep_sql_model.proofs.Opens.{if_found}
use Rattle.keep_sql.proofs.rows.only_record.Goals as goal

pub returns-in-Ok-Blob-clause-ok : goal.returns-in-Ok-Blob-clause-ok
returns-in-Ok-Blob-clause-ok c =
    let here : Blob c.in-Ok-Blob.body.now ≡ column c.row-item.result 0 = rw c.in-Ok-Blob.field-0-is at c.in-Ok-Blob.ensures.ok.1 in
    if_found (λ r. IsStoredAs c.in-Ok-Blob.body.now r.0 r.1) (λ r. FindsRecord c.args.rows.now r.0 r.1) c.decode_record.result
    (λ r it. record {
      row = c.row-item.result;
      bytes = c.in-Ok-Blob.body.now;
      alone = one_row c.args.rows.now c.row-item.result c.in-len1.len_at_least c.in-len1.len_below c.row-item.is;
      body_is = sym here;
      stored = it;
    }) c.decode_record.ensures.ok

pub returns-in-Ok-Blob-clause-undamaged : goal.returns-in-Ok-Blob-clause-undamaged
returns-in-Ok-Blob-clause-undamaged c = λ r shows.
    let here : Blob c.in-Ok-Blob.body.now ≡ column c.row-item.result 0 = rw c.in-Ok-Blob.field-0-is at c.in-Ok-Blob.ensures.ok.1 in
    let alone = one_row c.args.rows.now c.row-item.result c.in-len1.len_at_least c.in-len1.len_below c.row-item.is in
    let same = same_row c.args.rows.now c.row-item.result shows.row alone shows.alone in
    let bytes = same_bytes c.in-Ok-Blob.body.now shows.bytes (column c.row-item.result 0) here
    (ap (λ (row : Row). column row 0) same ∙ shows.body_is) in
    c.decode_record.ensures.undamaged r (subst (λ (b : List ℕ). IsRecordBody b r) (sym bytes) shows.is_body)
