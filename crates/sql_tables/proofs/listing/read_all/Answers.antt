use Rattle.sqlite.specs.Held.{state}
use Rattle.sql_statements.proofs.Queries.{all_reads, all_shown, reads_kept, first_of_both, second_of_both}
use Rattle.sql_tables.proofs.listing.read_all.Goals as goal

pub returns-in_err-ensure_open-clause-same : goal.returns-in_err-ensure_open-clause-same
returns-in_err-ensure_open-clause-same g c = λ query. reads_kept _ _ c.ensure_open.ensures.kept

pub returns-clause-rows : goal.returns-clause-rows
returns-clause-rows g c = λ query clean db sees.
    first_of_both _ _ c.query_all.result
    (all_shown c.args.sql.now query (state g.S.Store c.args.conn.now) (state g.S.Store c.ensure_open.new.conn)
    (state g.S.Store c.query_all.new.self) (λ rows. rows.items) c.query_all.result
    c.ensure_open.ensures.kept c.in_ok-ensure_open.ensures.open c.query_all.ensures.ok c.query_all.ensures.err
    c.query_all.ensures.survives clean db sees)

pub returns-clause-open : goal.returns-clause-open
returns-clause-open g c = λ query clean db sees.
    second_of_both _ _ c.query_all.result
    (all_shown c.args.sql.now query (state g.S.Store c.args.conn.now) (state g.S.Store c.ensure_open.new.conn)
    (state g.S.Store c.query_all.new.self) (λ rows. rows.items) c.query_all.result
    c.ensure_open.ensures.kept c.in_ok-ensure_open.ensures.open c.query_all.ensures.ok c.query_all.ensures.err
    c.query_all.ensures.survives clean db sees)

pub returns-clause-same : goal.returns-clause-same
returns-clause-same g c = λ query.
    all_reads c.args.sql.now query (state g.S.Store c.args.conn.now) (state g.S.Store c.ensure_open.new.conn)
    (state g.S.Store c.query_all.new.self) (λ rows. rows.items) c.query_all.result
    c.ensure_open.ensures.kept c.in_ok-ensure_open.ensures.open c.query_all.ensures.ok c.query_all.ensures.err c.query_all.ensures.survives
