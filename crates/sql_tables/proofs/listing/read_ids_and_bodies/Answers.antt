use Rattle.sql_statements.proofs.ListedIds.{objects_is_query, objects_listed}
use Rattle.sql_tables.proofs.listing.read_ids_and_bodies.Goals as goal

pub returns-clause-rows : goal.returns-clause-rows
returns-clause-rows g c = λ clean db sees. objects_listed db (λ rows. rows.items) c.read_all.result
    (c.read_all.ensures.rows objects_is_query clean db sees)

pub returns-clause-open : goal.returns-clause-open
returns-clause-open g c = λ clean db sees. c.read_all.ensures.open objects_is_query clean db sees

pub returns-clause-same : goal.returns-clause-same
returns-clause-same g c = c.read_all.ensures.same objects_is_query
