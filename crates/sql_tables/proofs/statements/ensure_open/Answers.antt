use Rattle.std.proofs.lemmas.Result.{err_from_is_err_and}
use Rattle.sqlite.specs.Held.{state}
use Rattle.sql_statements.proofs.Lift.{kept, prepared}
use Rattle.sql_tables.proofs.Shut.{shut_if_closed}
use Rattle.sql_tables.proofs.statements.ensure_open.Goals as goal

pub returns-in_err-prepare-clause-kept : goal.returns-in_err-prepare-clause-kept
returns-in_err-prepare-clause-kept g c =
    kept (state g.S.Store c.args.conn.now) (state g.S.Store c.prepare.new.self)
    (λ clean. prepared _ _ _ c.prepare.result _ (c.prepare.ensures.ok clean) (c.prepare.ensures.err clean)) c.prepare.ensures.survives

pub returns-clause-kept : goal.returns-clause-kept
returns-clause-kept g c = kept (state g.S.Store c.args.conn.now) (state g.S.Store c.prepare.new.self)
    (λ clean. prepared _ _ _ c.prepare.result _ (c.prepare.ensures.ok clean) (c.prepare.ensures.err clean)) c.prepare.ensures.survives

pub returns-clause-open : goal.returns-clause-open
returns-clause-open g c = λ clean. (c.in_ok-prepare.ensures.ok clean).1.0.is_open

pub returns-in_err-prepare-clause-shut : goal.returns-in_err-prepare-clause-shut
returns-in_err-prepare-clause-shut g c = λ clean. let p = err_from_is_err_and c.from_residual.result c.from_residual.ensures.1 in
    rw (p.1, p.2) (shut_if_closed _ _ _ _ (c.in_err-prepare.ensures.err clean))
