-- A keeper over a file, and one in memory.
use Rattle.std.proofs.Common.{◌≡◌, Ok, Err, Result, IfOk, refl, sym, ap, subst}
use Rattle.sqlite_disk.specs.declared.Disk.{Ghosts}
use Rattle.sqlite.specs.declared.FileStore.{FileStore}
use Rattle.sqlite_trees.specs.declared.memory.MemStore.{MemStore}
use Rattle.sqlite.specs.Tree.{Trees}
use Rattle.sqlite.specs.Effect.{Database}
use Rattle.sqlite.specs.State.{HasCleanDisk}
use Rattle.sqlite.specs.Held.{Held, state}
use Rattle.sqlite.specs.Files.{file_state, over_files, IsOpened}
use Rattle.sqlite.specs.Steps.{over_memory, IsEmpty}
use Rattle.sqlite.specs.Recovery.{Image}
use Rattle.sqlite.specs.Start.{FindsIn}
use Rattle.sqlite.proofs.Callers.{memory_is_clean}
use Rattle.pin_record.specs.Records.{new_record}
use Rattle.keep.specs.Contents.{Contents, new_contents}
use Rattle.keep.specs.Keeping.{Begins}
use Rattle.keep.specs.declared.keep.KeepFault.{KeepFault}
use Rattle.sql_statements.specs.Tables.{no_schema}
use Rattle.keep_sql_model.specs.Store.{IsStore}
use Rattle.keep_sql_model.proofs.Held.{store_at}
use Rattle.keep_sql_model.specs.Formats.{HoldsEither}
use Rattle.keep_sql_model.specs.Opening.{Adopts, Opened}
use Rattle.keep_sql_model.specs.OpenedFile.{OpenedFile}
use Rattle.keep_sql_model.specs.SqlState.{SqlState, sql_terms}

pub memory_opened : (was : Held MemStore) (r : Result (SqlState MemStore) KeepFault) → IsEmpty (state over_memory was)
    → IfOk r (λ k. Opened (state over_memory was) (state over_memory k.conn) k.token_record)
    → ((state over_memory was).now.schema ≡ no_schema
    → IfOk r (λ k. HasCleanDisk (state over_memory k.conn) → Adopts (sql_terms over_memory) k (new_contents new_record)))
    → IfOk r (λ k. (k.failures ≡ 0) × (k.tried ≡ 0))
    → IfOk r (λ k. Begins (sql_terms over_memory) k (new_contents new_record))
memory_opened was (Ok k) empty opened fresh counts =
    let clean = memory_is_clean k.conn in
    let it = fresh empty.2 clean in
    let made = opened.fresh empty.2 clean in
    let settled : (state over_memory k.conn).now.trees ≡ (state over_memory k.conn).committed.trees =
    ap (λ (d : Database). d.trees) (sym made.1.settled) in
    record {
      held = it.held;
      only = it.only;
      left = (
        clean,
        (
          (state over_memory k.conn).committed.trees,
          refl,
          subst (λ (t : Trees). IsStore t (new_contents new_record)) settled
              (store_at (state over_memory k.conn) (new_contents new_record) made.1),
        ),
      );
      alone = it.alone;
      sure = clean;
      failures = counts.0;
      tried = counts.1;
    }
memory_opened was (Err fault) empty opened fresh counts = tt
