use Rattle.std.proofs.Common.{OnOk, OnErr}
use Rattle.sqlite.specs.Held.{state}
use Rattle.sql_statements.specs.Bodies.{with_body_at}
use Rattle.sql_statements.specs.Store.{Committed, Uncommitted}
use Rattle.sql_statements.proofs.Lift.{ends}
use Rattle.sql_statements.proofs.Replace.{replace_step}
use Rattle.sql_tables.proofs.statements.replace_row.Goals as goal

both : (g : _) (c : goal.After-replace_by g)
    → OnOk c.replace_by.result (Committed (state g.S.Store c.args.conn.now) (state g.S.Store c.replace_by.new.conn)
    (with_body_at c.args.id c.args.bytes.now))
    × OnErr c.replace_by.result (Uncommitted (state g.S.Store c.args.conn.now) (state g.S.Store c.replace_by.new.conn)
    (with_body_at c.args.id c.args.bytes.now))
both g c =
    ends _ _ _ _ (replace_step c.args.id c.args.bytes.now) (state g.S.Store c.args.conn.now)
    (state g.S.Store c.replace_by.new.conn) c.replace_by.result
    c.replace_by.ensures.runs c.replace_by.ensures.survives (λ db up may. g.met.S.Store.settled _ db up may)

pub returns-clause-ok : goal.returns-clause-ok
returns-clause-ok g c = (both g c).0

pub returns-clause-err : goal.returns-clause-err
returns-clause-err g c = (both g c).1
