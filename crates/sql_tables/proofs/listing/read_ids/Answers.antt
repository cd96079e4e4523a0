use Rattle.sqlite.specs.Held.{state}
use Rattle.sql_statements.proofs.Queries.{reads_stay, sees_held}
use Rattle.sql_statements.proofs.ListedIds.{ids_is_query, ids_found}
use Rattle.sql_tables.proofs.listing.read_ids.Goals as goal

pub returns-clause-ids : goal.returns-clause-ids
returns-clause-ids g c = λ clean d h.
    ids_found (state g.S.Store c.args.conn.now) (state g.S.Store c.read_all.new.conn) d h c.read_all.ensures.same
    (λ rows. rows.items) c.read_all.result
    (c.read_all.ensures.rows ids_is_query clean (state g.S.Store c.args.conn.now).now (sees_held (state g.S.Store c.args.conn.now) d h))
    (c.read_all.ensures.open ids_is_query clean (state g.S.Store c.args.conn.now).now
    (sees_held (state g.S.Store c.args.conn.now) d h)) clean

pub returns-clause-open : goal.returns-clause-open
returns-clause-open g c = λ clean d h. c.read_all.ensures.open ids_is_query clean (state g.S.Store c.args.conn.now).now
    (sees_held (state g.S.Store c.args.conn.now) d h)

pub returns-clause-same : goal.returns-clause-same
returns-clause-same g c = reads_stay _ _ (c.read_all.ensures.same ids_is_query)
