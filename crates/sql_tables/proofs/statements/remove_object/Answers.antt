use Rattle.sqlite.specs.Held.{state}
use Rattle.sql_statements.specs.Bodies.{without_body}
use Rattle.sql_statements.proofs.Lift.{then_done, then_undone, not_sent_if, failed_if}
use Rattle.sql_tables.proofs.statements.remove_object.Goals as goal

pub returns-in_err-ensure_open-clause-err : goal.returns-in_err-ensure_open-clause-err
returns-in_err-ensure_open-clause-err g c =
    not_sent_if (state g.S.Store c.args.conn.now) (state g.S.Store c.ensure_open.new.conn)
    (without_body c.args.id) _ c.ensure_open.ensures.kept

pub returns-in_err-remove_row-clause-err : goal.returns-in_err-remove_row-clause-err
returns-in_err-remove_row-clause-err g c =
    failed_if (state g.S.Store c.args.conn.now) (state g.S.Store c.remove_row.new.conn) (without_body c.args.id) _
    (then_undone (state g.S.Store c.args.conn.now) (state g.S.Store c.ensure_open.new.conn) (state g.S.Store c.remove_row.new.conn)
    (without_body c.args.id) c.ensure_open.ensures.kept c.in_ok-ensure_open.ensures.open c.in_err-remove_row.ensures.err)

pub returns-clause-ok : goal.returns-clause-ok
returns-clause-ok g c =
    then_done (state g.S.Store c.args.conn.now) (state g.S.Store c.ensure_open.new.conn) (state g.S.Store c.remove_row.new.conn)
    (without_body c.args.id) c.ensure_open.ensures.kept c.in_ok-ensure_open.ensures.open c.in_ok-remove_row.ensures.ok
