use Rattle.sql_tables.proofs.Inside.{pair_ran}
use Rattle.sql_tables.proofs.transactions.TwoStatementsStatements.run.Goals as goal

pub returns-clause-ran : goal.returns-clause-ran
returns-clause-ran g c = λ clean before is.
    pair_ran g.S.Store c.args.self.now.first.now c.args.self.now.second.now c.args.self.now.bytes.now c.args.tx.now.conn.now
    c.execute.new.self.conn.now c.execute-2.new.self.conn.now c.in_ok-execute.field-0 c.execute-2.result c.in_ok-execute.ensures.runs
    (rw c.params-to_sql.ensures at c.execute-2.ensures.runs) c.execute-2.ensures.survives clean before is
