use Rattle.sqlite.proofs.Callers.{memory_is_clean}
use Rattle.keep_sql_model.proofs.Places.{memory_opened}
use Rattle.keep_sql.proofs.files.SqlKeep+MemStore.in_memory.Goals as goal

pub returns-in-Ok-clause-begins : goal.returns-in-Ok-clause-begins
returns-in-Ok-clause-begins c =
    memory_opened c.in-Ok.conn c.adopt.result c.in-Ok.ensures.empty c.adopt.ensures.opened c.adopt.ensures.fresh c.adopt.ensures.counts

pub returns-in-Ok-clause-undamaged : goal.returns-in-Ok-clause-undamaged
returns-in-Ok-clause-undamaged c = c.adopt.ensures.undamaged c.in-Ok.ensures.empty.2 memory_is_clean
