-- Why a log isn't copied.
use Rattle.std.specs.Prelude.{◌≡◌}
use Rattle.sqlite_disk.specs.declared.Disk.{Ghosts}
use Rattle.sqlite_trees.specs.declared.error.StoreError.{StoreError}
use Rattle.sqlite_trees.specs.View.{IsClean}
use Rattle.sqlite_store.specs.FileStore.{view}
use Rattle.sqlite.specs.declared.FileStore.{FileStore}
use Rattle.sqlite.specs.declared.error.Error.{Error}
use Rattle.sqlite.specs.State.{store_error}
use Rattle.sqlite.specs.Held.{Held}
use Rattle.sqlite.specs.Files.{ExcusesClose}

-- a log that can't be copied, by what the store is left as
abbrev pub FailsToCopy : {D : Type 0} {g : Ghosts D} → Held (FileStore D g) → FileStore D g → Error → Type 0
FailsToCopy c last e = IsClean (view last) → (cause : StoreError) × (e ≡ store_error cause) × ExcusesClose c last cause
