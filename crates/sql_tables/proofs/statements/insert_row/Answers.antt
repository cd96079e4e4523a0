use Rattle.std.proofs.Common.{arith, OnOk, OnErr}
use Rattle.sqlite.specs.Held.{state}
use Rattle.sqlite.specs.State.{HasCleanDisk}
use Rattle.sql_statements.specs.Bodies.{with_body}
use Rattle.sql_statements.specs.Store.{Committed, Uncommitted}
use Rattle.sql_statements.proofs.Lift.{ends}
use Rattle.sql_statements.proofs.Steps.{insert_step, insert_id}
use Rattle.sql_tables.proofs.statements.insert_row.Goals as goal

both : (g : _) (c : goal.After-execute g)
    → OnOk c.execute.result (Committed (state g.S.Store c.args.conn.now) (state g.S.Store c.execute.new.self) (with_body c.args.bytes.now))
    × OnErr c.execute.result (Uncommitted (state g.S.Store c.args.conn.now) (state g.S.Store c.execute.new.self)
    (with_body c.args.bytes.now))
both g c =
    ends _ _ _ _ (insert_step c.args.bytes.now) (state g.S.Store c.args.conn.now) (state g.S.Store c.execute.new.self) c.execute.result
    (λ clean. rw c.params-to_sql.ensures at (c.execute.ensures.runs clean)) (rw c.params-to_sql.ensures at c.execute.ensures.survives)
    (λ db up may. g.met.S.Store.settled _ db up may)

pub returns-clause-ok : goal.returns-clause-ok
returns-clause-ok g c = (both g c).0

pub returns-clause-err : goal.returns-clause-err
returns-clause-err g c = (both g c).1

pub returns-clause-id : goal.returns-clause-id
returns-clause-id g c = λ clean b ready h.
    let before : HasCleanDisk (state g.S.Store c.args.conn.now) = omega (arith, c.execute.ensures.survives.clean) in
    insert_id c.args.bytes.now (state g.S.Store c.args.conn.now) (state g.S.Store c.execute.new.self) b c.execute.result
    (h before (ready before)) (rw c.params-to_sql.ensures at (c.execute.ensures.runs clean))
