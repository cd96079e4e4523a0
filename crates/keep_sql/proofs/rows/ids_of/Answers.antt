use Rattle.std.proofs.Common.{arith}
use Rattle.keep_sql_model.proofs.Bytes.{ids_are}
use Rattle.keep_sql.proofs.rows.ids_of.Goals as goal

pub returns-clause-ids : goal.returns-clause-ids
returns-clause-ids c = λ ids is. ids_are c.args.rows.now ids c.loop-row.ids.items c.loop-row.row-index
    (omega (arith, c.loop-row-test.false)) is c.loop-row.invariant
