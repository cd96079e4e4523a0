-- What the opening of a file gives.
use Rattle.std.specs.Prelude.{◌≡◌, ◌⊎◌, ◌≤◌, IsTrue, true}
use Rattle.sqlite_disk.specs.declared.Disk.{Ghosts}
use Rattle.sqlite.specs.declared.FileStore.{FileStore}
use Rattle.sqlite_trees.specs.declared.error.StoreError.TheVariants.{Full}
use Rattle.sqlite_trees.specs.View.{Tells, doubt}
use Rattle.sqlite.specs.State.{HasCleanDisk, IsLive, Opens, State}
use Rattle.sqlite.specs.Held.{Held}
use Rattle.sqlite.specs.Files.{file_state, over_files, ExcusesClose, IsBlankAs, IsOpened}
use Rattle.sqlite_store.specs.FileStore.{blamed, log_frames, state, view}
use Rattle.sqlite.specs.Recovery.{Image}
use Rattle.sqlite.specs.Closing.{HoldsAlone}
use Rattle.sqlite.specs.Start.{FindsIn}
use Rattle.pin_record.specs.Records.{new_record}
use Rattle.keep.specs.Contents.{Contents, new_contents}
use Rattle.sql_statements.specs.Tables.{no_schema}
use Rattle.sql_log.specs.Damage.{IsFirst, IsPlainlyDamaged}
use Rattle.keep_sql_model.specs.Formats.{HoldsEither}
use Rattle.keep_sql_model.specs.Opening.{Adopts, Opened}
use Rattle.keep_sql_model.specs.SqlState.{SqlState, sql_terms}

-- The new connection is open, and has what the old one had committed.
pub record IsCopy (old new : State) : Type 0 where
  pub clean : doubt old.is_clean ≤ doubt new.is_clean
  pub was_open : HasCleanDisk new → IsTrue old.is_open
  pub opens : HasCleanDisk new → Opens new × IsLive new
  pub trees : HasCleanDisk new → new.now.trees ≡ old.committed.trees

-- The connection was made over a store whose log had no frame. So the database file alone held what the connection has, as it read and
-- whatever a crash had left.
pub record IsInFile {D : Type 0} {g : Ghosts D} (c : Held (FileStore D g)) : Type 0 where
  pub over : FileStore D g
  pub clean : doubt (view over).is_clean ≤ doubt (file_state c).is_clean
  pub empty : HasCleanDisk (file_state c) → log_frames over ≡ 0
  pub alone : HasCleanDisk (file_state c) → (image : Image) → (state over).may_leave image → HoldsAlone image (file_state c).now.trees

-- The disk had no room for the copying of the log, and said so. The connection was made over what that left, and has what the one whose
-- log was to be copied had committed.
pub record HasNoRoom {D : Type 0} {g : Ghosts D} (c : Held (FileStore D g)) : Type 0 where
  pub was : Held (FileStore D g)
  pub copy : IsCopy (file_state was) (file_state c)
  pub over : FileStore D g
  pub clean : doubt (view over).is_clean ≤ doubt (file_state c).is_clean
  pub told : Tells (blamed over) Full
  pub full : HasCleanDisk (file_state c) → ExcusesClose was over Full

-- The keeper is over a connection that found the database which the files held. What that held, in whichever format, the keeper holds.
-- Only files that a first opening may have left are taken for a new store, and the pages of a new file end in sums. The log had no
-- commits behind damage, and was copied into the database file, or the disk had no room for that.
pub record OpenedFile {D : Type 0} {g : Ghosts D} (start : Image) (k : SqlState (FileStore D g)) : Type 0 where
  pub was : Held (FileStore D g)
  pub is_open : HasCleanDisk (file_state was) → IsOpened was
  pub finds : HasCleanDisk (file_state was) → FindsIn start (file_state was)
  pub first : HasCleanDisk (file_state was) → (file_state was).now.schema ≡ no_schema → IsFirst start
  pub sums : HasCleanDisk (file_state was) → IsBlankAs true start → IsTrue (view was.store).has_sums
  pub undamaged : HasCleanDisk (file_state was) → ¬ IsPlainlyDamaged start.log
  pub opened : Opened (file_state was) (file_state k.conn) k.token_record
  pub found : (c : Contents) → HoldsEither (file_state was) c → HasCleanDisk (file_state k.conn) → Adopts (sql_terms over_files) k c
  pub fresh : (file_state was).now.schema ≡ no_schema → HasCleanDisk (file_state k.conn)
      → Adopts (sql_terms over_files) k (new_contents new_record)
  pub copied : IsInFile k.conn ⊎ HasNoRoom k.conn
  pub failures : k.failures ≡ 0
  pub tried : k.tried ≡ 0
