use Rattle.sqlite.specs.Held.{state}
use Rattle.sql_statements.specs.Bodies.{with_body}
use Rattle.sql_statements.proofs.Lift.{then_done, then_undone, not_sent_if, failed_if, held_on}
use Rattle.sql_tables.proofs.statements.insert_object.Goals as goal

pub returns-in_err-ensure_open-clause-err : goal.returns-in_err-ensure_open-clause-err
returns-in_err-ensure_open-clause-err g c =
    not_sent_if (state g.S.Store c.args.conn.now) (state g.S.Store c.ensure_open.new.conn)
    (with_body c.args.bytes.now) _ c.ensure_open.ensures.kept

pub returns-in_err-insert_row-clause-err : goal.returns-in_err-insert_row-clause-err
returns-in_err-insert_row-clause-err g c =
    failed_if (state g.S.Store c.args.conn.now) (state g.S.Store c.insert_row.new.conn) (with_body c.args.bytes.now) _
    (then_undone (state g.S.Store c.args.conn.now) (state g.S.Store c.ensure_open.new.conn) (state g.S.Store c.insert_row.new.conn)
    (with_body c.args.bytes.now) c.ensure_open.ensures.kept c.in_ok-ensure_open.ensures.open c.in_err-insert_row.ensures.err)

pub returns-clause-ok : goal.returns-clause-ok
returns-clause-ok g c =
    then_done (state g.S.Store c.args.conn.now) (state g.S.Store c.ensure_open.new.conn) (state g.S.Store c.insert_row.new.conn)
    (with_body c.args.bytes.now) c.ensure_open.ensures.kept c.in_ok-ensure_open.ensures.open c.in_ok-insert_row.ensures.ok

pub returns-clause-id : goal.returns-clause-id
returns-clause-id g c = λ clean b h.
    c.last_id.ensures.value _ (c.in_ok-insert_row.ensures.id clean b c.in_ok-ensure_open.ensures.open
    (held_on (state g.S.Store c.args.conn.now) (state g.S.Store c.ensure_open.new.conn) b c.ensure_open.ensures.kept h))

pub returns-clause-limit : goal.returns-clause-limit
returns-clause-limit g c = c.last_id.ensures.limit
