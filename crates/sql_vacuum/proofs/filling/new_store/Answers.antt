use Rattle.sqlite.specs.Files.{file_state}
use Rattle.sqlite_store.specs.FileStore.{view}
use Rattle.sql_vacuum.proofs.Fills.{new_if}
use Rattle.sql_vacuum.proofs.filling.new_store.Goals as goal

pub returns-in-Ok-true : goal.returns-in-Ok-true
returns-in-Ok-true c =
    new_if view c.settled.result (file_state c.make_tables.new.conn) c.settled.ensures.clean c.settled.ensures.fresh
    c.settled.ensures.trees (λ sure. (c.in-Ok-true.ensures.made c.in_ok-conn.ensures sure c.in-Ok-true.field-0-test).1)
