use Rattle.keep_sql_model.proofs.Bytes.{shown_bytes, found_ok}
use Rattle.keep_sql.proofs.rows.stored_object.Goals as goal

pub returns-in-Ok-clause-found : goal.returns-in-Ok-clause-found
returns-in-Ok-clause-found c =
    λ d id it. found_ok d id _ it c.in-Ok.object
    (c.in-Ok.ensures.found it.body it.is_object (shown_bytes d id _ it _ (rw c.in-Ok-Blob.field-0-is at c.in-Ok-Blob.ensures.ok.1)))
