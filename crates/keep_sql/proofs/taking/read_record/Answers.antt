use Rattle.keep_sql_model.proofs.Opens.{record_found, record_shown, if_found}
use Rattle.keep_sql.proofs.taking.read_record.Goals as goal

pub returns-in-Ok-clause-same : goal.returns-in-Ok-clause-same
returns-in-Ok-clause-same g c = c.in-Ok.ensures.same

pub returns-in-Ok-clause-ok : goal.returns-in-Ok-clause-ok
returns-in-Ok-clause-ok g c =
    λ clean db sees. if_found _ _ c.only_record.result
    (λ r it. record_found db _ _ r.0 r.1 c.as_slice.ensures.value (c.in-Ok.ensures.rows clean db sees) it) c.only_record.ensures.ok

pub returns-in-Ok-clause-undamaged : goal.returns-in-Ok-clause-undamaged
returns-in-Ok-clause-undamaged g c =
    λ clean db sees r it. c.only_record.ensures.undamaged r
    (record_shown db _ _ r c.as_slice.ensures.value (c.in-Ok.ensures.rows clean db sees) it)

pub returns-in-Err-clause-same : goal.returns-in-Err-clause-same
returns-in-Err-clause-same g c = c.in-Err.ensures.same
