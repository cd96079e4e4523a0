use Rattle.std.proofs.Common.{rules}
use Rattle.sql_tables.proofs.Commits.{one_made, one_undone}
use Rattle.sql_tables.proofs.transactions.run_all.Goals as goal

pub returns-in_err-finish : goal.returns-in_err-finish
returns-in_err-finish g c =
    one_undone g.S.Store c.args.conn.now c.transaction-tx.result.conn.now c.run-done.new.tx.conn.now c.finish.new.tx.0
    c.conn-1.given.0 c.run-done.result c.transaction-tx.ensures.begun (search rules)
    (g.T.Statements.ran c.args.statements.now) c.run-done.ensures.ran c.run-done.ensures.survives c.finish.ensures.ended
    c.finish.ensures.survives
    (c.is_autocommit.ensures.settled
    (search rules)) c.run-done.ensures.inside c.run-done.ensures.kept c.in_err-finish.ensures.undone c.from_residual.result
    c.from_residual.ensures.0

pub returns : goal.returns
returns g c =
    one_made g.S.Store c.args.conn.now c.transaction-tx.result.conn.now c.run-done.new.tx.conn.now c.finish.new.tx.0
    c.conn-1.given.0 c.run-done.result c.transaction-tx.ensures.begun (search rules)
    (g.T.Statements.ran c.args.statements.now) c.run-done.ensures.ran c.run-done.ensures.survives c.finish.ensures.ended
    c.finish.ensures.survives
    (c.is_autocommit-ended.ensures.settled (search rules)) c.in_ok-finish.ensures.shows c.in_ok-finish.ensures.whole
