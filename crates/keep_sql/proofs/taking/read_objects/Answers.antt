use Rattle.keep_sql_model.proofs.Opens.{objects_covered, objects_owned, objects_shown, if_found, on_ok}
use Rattle.keep_sql.proofs.taking.read_objects.Goals as goal

pub returns-in-Ok-clause-same : goal.returns-in-Ok-clause-same
returns-in-Ok-clause-same g c = c.in-Ok.ensures.same

pub returns-in-Ok-clause-open : goal.returns-in-Ok-clause-open
returns-in-Ok-clause-open g c = λ clean db sees. on_ok _ c.check_rows.result (c.in-Ok.ensures.open clean db sees)

pub returns-in-Ok-clause-covered : goal.returns-in-Ok-clause-covered
returns-in-Ok-clause-covered g c =
    λ clean db sees. if_found _ _ c.check_rows.result
    (λ es all. objects_covered db _ _ es.items c.as_slice.ensures.value
    (c.in-Ok.ensures.rows clean db sees) all) c.check_rows.ensures.covered

pub returns-in-Ok-clause-own : goal.returns-in-Ok-clause-own
returns-in-Ok-clause-own g c =
    λ clean db sees. if_found _ _ c.check_rows.result
    (λ es all. objects_owned db _ _ es.items c.as_slice.ensures.value (c.in-Ok.ensures.rows clean db sees) all) c.check_rows.ensures.own

pub returns-in-Ok-clause-undamaged : goal.returns-in-Ok-clause-undamaged
returns-in-Ok-clause-undamaged g c =
    λ clean db sees all. c.check_rows.ensures.undamaged
    (objects_shown db _ _ c.as_slice.ensures.value (c.in-Ok.ensures.rows clean db sees) all)

pub returns-in-Err-clause-same : goal.returns-in-Err-clause-same
returns-in-Err-clause-same g c = c.in-Err.ensures.same
