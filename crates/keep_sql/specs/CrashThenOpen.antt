-- What a crash leaves of a store in files is what the next opening finds.
use Rattle.std.specs.Prelude.{◌≡◌, Option, Some, None, IsTrue, ⊤}
use Rattle.sqlite_disk.specs.declared.Disk.{Ghosts}
use Rattle.sqlite_wal.specs.Recovery.{Image}
use Rattle.sqlite.specs.declared.FileStore.{FileStore}
use Rattle.sqlite_store.specs.FileStore.{recovers, state, view}
use Rattle.sqlite.specs.State.{HasCleanDisk}
use Rattle.sqlite.specs.Held.{AreDatabases}
use Rattle.sqlite.specs.Files.{file_state, over_files}
use Rattle.keep.specs.Contents.{Contents}
use Rattle.keep_sql_model.specs.Opening.{Adopts}
use Rattle.keep_sql_model.specs.OpenedFile.{OpenedFile}
use Rattle.keep_sql_model.specs.SqlState.{SqlState, sql_terms}

-- where contents were left, the keeper holds them and no others, and a crash leaves them alone
abbrev pub HoldsLeft : {D : Type 0} {g : Ghosts D} → SqlState (FileStore D g) → Option Contents → Type 0
HoldsLeft next (Some c) = Adopts (sql_terms over_files) next c
HoldsLeft next None = ⊤

-- `next` was opened over files that a crash could leave of the keeper `k`. Then it is not so that `next` holds none of what that could
-- leave. sqlite keeps the two facts of the store for each connection (`into_store`).
abbrev pub CrashThenOpen : {D N : Type 0} → Ghosts D → Ghosts N → Type 0
CrashThenOpen {D} {N} g h =
    (k : SqlState (FileStore D g)) (next : SqlState (FileStore N h)) (image : Image) → HasCleanDisk (file_state k.conn)
    → IsTrue (view k.conn.store).is_numbered → AreDatabases (recovers k.conn.store)
    → (state k.conn.store).may_leave image → OpenedFile image next → HasCleanDisk (file_state next.conn)
    → ¬ ((left : Option Contents) → (sql_terms over_files).may_leave k left → ¬ HoldsLeft next left)
