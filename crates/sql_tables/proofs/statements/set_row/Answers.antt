use Rattle.std.proofs.Common.{OnOk, OnErr}
use Rattle.sqlite.specs.Held.{state}
use Rattle.sql_statements.specs.Bodies.{bodies_with_record}
use Rattle.sql_statements.specs.Store.{Committed, Uncommitted}
use Rattle.sql_statements.proofs.Lift.{ends}
use Rattle.sql_statements.proofs.Set.{set_step}
use Rattle.sql_tables.proofs.statements.set_row.Goals as goal

both : (g : _) (c : goal.After-execute g)
    → OnOk c.execute.result (Committed (state g.S.Store c.args.conn.now) (state g.S.Store c.execute.new.self)
    (bodies_with_record c.args.bytes.now))
    × OnErr c.execute.result (Uncommitted (state g.S.Store c.args.conn.now) (state g.S.Store c.execute.new.self)
    (bodies_with_record c.args.bytes.now))
both g c =
    ends _ _ _ _ (set_step c.args.bytes.now) (state g.S.Store c.args.conn.now) (state g.S.Store c.execute.new.self) c.execute.result
    (λ clean. rw c.params-to_sql.ensures at (c.execute.ensures.runs clean)) (rw c.params-to_sql.ensures at c.execute.ensures.survives)
    (λ db up may. g.met.S.Store.settled _ db up may)

pub returns-clause-ok : goal.returns-clause-ok
returns-clause-ok g c = (both g c).0

pub returns-clause-err : goal.returns-clause-err
returns-clause-err g c = (both g c).1
