-- What a crash leaves of a store in files is what the next opening finds.
use Rattle.std.proofs.Common.{Option, Some, None, IsTrue, arith}
use Rattle.std.proofs.Math.Logic.{∥∥₁_elim}
use Rattle.sqlite_disk.specs.declared.Disk.{Ghosts}
use Rattle.sqlite_wal.specs.Recovery.{Image}
use Rattle.sqlite.specs.declared.FileStore.{FileStore}
use Rattle.sqlite_store.specs.FileStore.{recovers, state, view}
use Rattle.sqlite.specs.State.{HasCleanDisk}
use Rattle.sqlite.specs.Held.{AreDatabases}
use Rattle.sqlite.specs.Files.{file_state, over_files}
use Rattle.sqlite.proofs.Theorems.{next_run}
use Rattle.keep.specs.Contents.{Contents}
use Rattle.keep_sql_model.specs.Store.{IsStore}
use Rattle.keep_sql_model.specs.OpenedFile.{OpenedFile}
use Rattle.keep_sql_model.specs.SqlState.{SqlState, sql_terms}
use Rattle.keep_sql_model.proofs.Reopened.{found_held}
use Rattle.keep_sql.specs.CrashThenOpen.{HoldsLeft}

module _ {D N : Type 0} {g : Ghosts D} {h : Ghosts N} (k : SqlState (FileStore D g)) (next : SqlState (FileStore N h))
    (image : Image) (clean : HasCleanDisk (file_state k.conn)) (numbered : IsTrue (view k.conn.store).is_numbered)
    (sound : AreDatabases (recovers k.conn.store)) (may : (state k.conn.store).may_leave image) (it : OpenedFile image next)
    (sure : HasCleanDisk (file_state next.conn)) where
  pub finds_left : ¬ ((left : Option Contents) → (sql_terms over_files).may_leave k left → ¬ HoldsLeft next left)
  finds_left none =
      let was_sure : HasCleanDisk (file_state it.was) = omega (arith, it.opened.clean) in
      ∥∥₁_elim (next_run k.conn.store numbered sound image may (file_state it.was) (it.finds was_sure)) (λ x y. absurd x) (λ left.
      none None (
        clean,
        (
          (file_state it.was).committed.trees,
          left,
          λ (c : Contents) (store : IsStore (file_state it.was).committed.trees c).
              none (Some c) (clean, ((file_state it.was).committed.trees, left, store)) (found_held next image it sure c store),
        ),
      ) tt)
