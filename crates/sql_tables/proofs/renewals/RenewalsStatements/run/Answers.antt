use Rattle.sql_tables.proofs.Each.{all_ran}
use Rattle.sql_tables.proofs.renewals.RenewalsStatements.run.Goals as goal

pub returns-clause-ran : goal.returns-clause-ran
returns-clause-ran g c = λ clean before is.
    all_ran g.S.Store c.args.self.now.each.now c.args.self.now.bytes.now c.args.tx.now.conn.now c.write_each.new.tx.conn.now
    c.execute.new.self.conn.now c.execute.result c.in_ok-write_each.ensures.ran
    (rw c.params-to_sql.ensures at c.execute.ensures.runs) c.execute.ensures.survives clean before is
