use Rattle.keep.specs.Contents.{new_contents}
use Rattle.pin_record.specs.Records.{new_record}
use Rattle.keep_sql_model.specs.SqlState.{SqlState}
use Rattle.keep_sql.proofs.Outcomes.{adopts}
use Rattle.keep_sql.proofs.sql_keep.SqlKeep.from_connection.Goals as goal

pub returns-in-Ok-clause-found : goal.returns-in-Ok-clause-found
returns-in-Ok-clause-found g c = λ d h clean.
    let made : SqlState _ = record {
      conn = c.open_store.new.conn;
      token_record = c.in-Ok.token_record;
      failures = 0;
      tried =
          c.new.result;
    } in
    let it = c.in-Ok.ensures.opened.held d h clean in
    adopts g.S.Store made d clean it.0 it.1 it.2 (λ db up may. g.met.S.Store.settled _ db up may)

pub returns-in-Ok-clause-fresh : goal.returns-in-Ok-clause-fresh
returns-in-Ok-clause-fresh g c = λ none clean.
    let made : SqlState _ = record {
      conn = c.open_store.new.conn;
      token_record = c.in-Ok.token_record;
      failures = 0;
      tried =
          c.new.result;
    } in
    let it = c.in-Ok.ensures.opened.fresh none clean in
    adopts g.S.Store made (new_contents new_record) clean it.0 it.1 it.2 (λ db up may. g.met.S.Store.settled _ db up may)
