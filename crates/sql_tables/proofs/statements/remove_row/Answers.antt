use Rattle.std.proofs.Common.{OnOk, OnErr}
use Rattle.sqlite.specs.Held.{state}
use Rattle.sql_statements.specs.Bodies.{without_body}
use Rattle.sql_statements.specs.Store.{Committed, Uncommitted}
use Rattle.sql_statements.proofs.Lift.{ends}
use Rattle.sql_statements.proofs.Take.{remove_step}
use Rattle.sql_tables.proofs.statements.remove_row.Goals as goal

both : (g : _) (c : goal.After-delete_by g)
    → OnOk c.delete_by.result (Committed (state g.S.Store c.args.conn.now) (state g.S.Store c.delete_by.new.conn) (without_body c.args.id))
    × OnErr c.delete_by.result (Uncommitted (state g.S.Store c.args.conn.now) (state g.S.Store c.delete_by.new.conn)
    (without_body c.args.id))
both g c =
    ends _ _ _ _ (remove_step c.args.id) (state g.S.Store c.args.conn.now) (state g.S.Store c.delete_by.new.conn) c.delete_by.result
    c.delete_by.ensures.runs c.delete_by.ensures.survives (λ db up may. g.met.S.Store.settled _ db up may)

pub returns-clause-ok : goal.returns-clause-ok
returns-clause-ok g c = (both g c).0

pub returns-clause-err : goal.returns-clause-err
returns-clause-err g c = (both g c).1
