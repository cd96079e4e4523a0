-- What the opening of a file finds that was written from a store's rows.
use Rattle.std.specs.Prelude.{List, [], ℕ}
use Rattle.sqlite_disk.specs.declared.Disk.{Ghosts}
use Rattle.sqlite.specs.Tree.{Trees}
use Rattle.sqlite.specs.declared.FileStore.{FileStore}
use Rattle.sqlite.specs.State.{HasCleanDisk}
use Rattle.sqlite.specs.Files.{file_state, over_files}
use Rattle.keep.specs.Contents.{Contents}
use Rattle.sql_statements.specs.Bodies.{Bodies}
use Rattle.sql_statements.specs.Store.{HasRows}
use Rattle.keep_sql_model.specs.Store.{IsStore}
use Rattle.keep_sql_model.specs.Opening.{Adopts}
use Rattle.keep_sql_model.specs.OpenedFile.{OpenedFile}
use Rattle.keep_sql_model.specs.SqlState.{SqlState, sql_terms}
use Rattle.sql_vacuum.specs.FileOf.{IsFileOf}

-- `trees` are the store of contents, and `bytes` a file of its rows, as `vacuumed` makes it. A keeper that was opened over that file
-- with no log holds these contents and no others, and a crash leaves them alone.
abbrev pub VacuumThenOpen : {N : Type 0} → Ghosts N → Type 0
VacuumThenOpen {N} h =
    (trees : Trees) (c : Contents) (bytes : List ℕ) (version : ℕ) (next : SqlState (FileStore N h)) → IsStore trees c
    → ((b : Bodies) → HasRows trees b → IsFileOf bytes b version)
    → OpenedFile (record { log = []; db = bytes }) next → HasCleanDisk (file_state next.conn) → Adopts (sql_terms over_files) next c
