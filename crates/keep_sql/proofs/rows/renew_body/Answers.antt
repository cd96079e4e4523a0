use Rattle.keep_sql_model.proofs.Bytes.{object_bytes}
use Rattle.keep_sql.proofs.rows.renew_body.Goals as goal

pub returns-in_ok-encode-in-Ok-clause-ok : goal.returns-in_ok-encode-in-Ok-clause-ok
returns-in_ok-encode-in-Ok-clause-ok c = (
  c.in-Ok.object,
  c.in-Ok.ensures.ok.0,
  c.in-Ok.ensures.ok.1,
  c.in-Ok.ensures.ok.2,
  c.in-Ok.ensures.ok.3,
  object_bytes _ _ c.in_ok-encode-in-Ok.ensures,
)
