use Rattle.keep_sql_model.specs.SqlState.{SqlState}
use Rattle.keep_sql.proofs.Outcomes.{adopts}
use Rattle.keep_sql.proofs.sql_keep.with_record.Goals as goal

pub returns-clause-adopts : goal.returns-clause-adopts
returns-clause-adopts g c = λ d clean up at same.
    let made : SqlState _ = record { conn = c.args.conn; token_record = c.args.token_record; failures = 0; tried = c.new.result } in
    adopts g.S.Store made d clean up at same (λ db up may. g.met.S.Store.settled _ db up may)
