-- Why files aren't opened. A disk that fails is told as that, and never as damage; damage is told as what was found.
use Rattle.std.specs.Prelude.{◌≤◌, ⊤, length}
use Rattle.std.specs.declared.io.ErrorKind.{ErrorKind}
use Rattle.std.specs.declared.io.ErrorKind.TheVariants as kind
use Rattle.sqlite_disk.specs.declared.Disk.{Ghosts}
use Rattle.sqlite_disk.specs.declared.Files.{Files}
use Rattle.sqlite_disk.specs.Disk.{MoreFaults}
use Rattle.sqlite.specs.declared.error.Error.TheVariants.{SqliteFailure}
use Rattle.sqlite.specs.declared.error.ErrorCode.TheVariants.{CannotOpen, DatabaseBusy, OutOfMemory, SystemIoFailure}
use Rattle.sqlite.specs.Files.{faults_of, image_of}
use Rattle.sql_log.specs.Damage.{IsDamaged, IsFirst}
use Rattle.keep_sql.specs.declared.refusal.OpenFault.{OpenFault}
use Rattle.keep_sql.specs.declared.refusal.OpenFault.TheVariants.{Sqlite, FileLost, LogDamaged, NoTables, Keeper}

-- before sqlite opens them, where `now` is what is left of the files
abbrev pub ExcusesReading : {D : Type 0} → Ghosts D → Files D → Files D → OpenFault → Type 0
ExcusesReading g files now (Sqlite (SqliteFailure OutOfMemory)) = ⊤
ExcusesReading g files now (Sqlite (SqliteFailure SystemIoFailure)) = MoreFaults (faults_of g files) (faults_of g now)
ExcusesReading g files now (Sqlite _) = ⊥
ExcusesReading g files now FileLost = (length (g.seen files.db) ≤ 1) × (¬ IsFirst (image_of g files))
ExcusesReading g files now LogDamaged = IsDamaged (g.seen files.log)
ExcusesReading g files now NoTables = ⊥
ExcusesReading g files now (Keeper f) = ⊥

-- Before a file is opened, as the system has it: the path can't be opened, another process has the file, no memory, or a log without its
-- file. So none of it is told as damage of a file that is there.
abbrev pub IsOfSystem : OpenFault → Type 0
IsOfSystem (Sqlite (SqliteFailure CannotOpen)) = ⊤
IsOfSystem (Sqlite (SqliteFailure DatabaseBusy)) = ⊤
IsOfSystem (Sqlite (SqliteFailure OutOfMemory)) = ⊤
IsOfSystem (Sqlite _) = ⊥
IsOfSystem FileLost = ⊤
IsOfSystem LogDamaged = ⊥
IsOfSystem NoTables = ⊥
IsOfSystem (Keeper f) = ⊥
