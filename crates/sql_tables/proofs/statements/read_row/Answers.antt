use Rattle.std.proofs.Common.{arith}
use Rattle.sqlite.specs.State.{HasCleanDisk}
use Rattle.sqlite.specs.Held.{state}
use Rattle.sql_statements.proofs.Queries.{on_ok, read_found, read_stays, kept_stays}
use Rattle.sql_tables.proofs.statements.read_row.Goals as goal

pub returns-in_err-ensure_open-clause-same : goal.returns-in_err-ensure_open-clause-same
returns-in_err-ensure_open-clause-same g c = kept_stays _ _ c.ensure_open.ensures.kept

pub returns-clause-found : goal.returns-clause-found
returns-clause-found g c = λ clean d h.
    read_found (state g.S.Store c.args.conn.now) (state g.S.Store c.ensure_open.new.conn)
    (state g.S.Store c.read_by.new.conn) c.args.id c.read_by.result c.ensure_open.ensures.kept c.in_ok-ensure_open.ensures.open
    c.read_by.ensures.row c.read_by.ensures.survives clean d h

pub returns-clause-same : goal.returns-clause-same
returns-clause-same g c =
    read_stays (state g.S.Store c.args.conn.now) (state g.S.Store c.ensure_open.new.conn)
    (state g.S.Store c.read_by.new.conn) c.args.id c.read_by.result c.ensure_open.ensures.kept c.in_ok-ensure_open.ensures.open
    c.read_by.ensures.row c.read_by.ensures.survives

pub returns-clause-open : goal.returns-clause-open
returns-clause-open g c = λ clean.
    let before : HasCleanDisk (state g.S.Store c.ensure_open.new.conn) = omega (arith, c.read_by.ensures.survives.clean) in
    on_ok _ c.read_by.result (c.ensure_open.ensures.kept.was_open before (c.in_ok-ensure_open.ensures.open before))
