-- What a refusal of files leaves of them.
use Rattle.std.specs.Prelude.{◌≡◌, ◌⊎◌, Bool, true, List, ℕ, Option, Some, None, IsSomeAnd, IsTrue}
use Rattle.sqlite_disk.specs.declared.Disk.{Ghosts}
use Rattle.sqlite_disk.specs.declared.Files.{Files}
use Rattle.sqlite_disk.specs.Disk.{Only}
use Rattle.sqlite_wal.specs.Reads.{AreClean, IsClean, OnlyReads}
use Rattle.sqlite.specs.Tree.{Trees}
use Rattle.sqlite.specs.declared.FileStore.{FileStore}
use Rattle.sqlite_trees.specs.View.{IsQuiet}
use Rattle.sqlite_store.specs.FileStore as store
use Rattle.sqlite_store.specs.FileStore.{recovers}
use Rattle.sqlite.specs.declared.error.Error.{Error}
use Rattle.sqlite.specs.State.{HasCleanDisk}
use Rattle.sqlite.specs.Held.{Held}
use Rattle.sqlite.specs.Closing.{files_left}
use Rattle.sqlite.specs.Files.{file_state, image_of, FailsToOpenFiles, IsCleanLeft, IsOpened, LeavesFiles}
use Rattle.sqlite.specs.Start.{FindsIn}
use Rattle.pin_record.specs.Records.{TokenRecord}
use Rattle.keep.specs.declared.keep.KeepFault.{KeepFault}
use Rattle.sql_log.specs.Bytes.{KeepsBeginning}
use Rattle.sql_log.specs.Damage.{IsFirst}
use Rattle.keep_sql_model.specs.Opening.{NotOpened, Opened, is_blank}
use Rattle.keep_sql.specs.Reasons.{ExcusesReading}
use Rattle.sql_copying.specs.Copying.{FailsToCopy}
use Rattle.keep_sql.specs.declared.refusal.OpenFault.{OpenFault}
use Rattle.keep_sql.specs.declared.refusal.OpenFault.TheVariants.{Keeper, NoTables, Sqlite}
use Rattle.keep_sql.specs.declared.refusal.Left.{Left}
use Rattle.keep_sql.specs.declared.refusal.Left.TheVariants as left

-- Files that are given back. The database file is as it was. The log has its bytes again, and a crash leaves them alone. Where it hasn't,
-- and in a crash before that, it is as it was as far as it began like these bytes.
pub record GivesBack {D : Type 0} (g : Ghosts D) (was now : Files D) (bytes : List ℕ) (is_whole : Bool) : Type 0 where
  pub db : now.db ≡ was.db
  pub log : IsTrue is_whole → IsClean g now.log → g.seen now.log ≡ bytes
  pub synced : IsTrue is_whole → Only (g.seen now.log) (g.may_leave now.log)
  pub crash : IsClean g now.log → KeepsBeginning (g.seen was.log) bytes (g.may_leave was.log) (g.may_leave now.log)

module _ {D : Type 0} {g : Ghosts D} where
  -- The keeper refused a connection, which is left as the refusal has it, or it opened the store and could not copy its log. Then a crash
  -- leaves of the store what it could leave of the keeper.
  abbrev pub LeavesConnection : Held (FileStore D g) → OpenFault → Left D g → Type 0
  LeavesConnection was fault left.Nothing = ⊥
  LeavesConnection was fault (left.Files files) = ⊥
  LeavesConnection was fault (left.Sqlite rest) = ⊥
  LeavesConnection was fault (left.Connection conn) = (f : KeepFault) × (fault ≡ Keeper f) × NotOpened (file_state was) (file_state conn) f
  LeavesConnection was fault (left.Store store) =
      (kept : Held (FileStore D g)) × (r : TokenRecord) × Opened (file_state was) (file_state kept) r
      × ((trees : Trees) → recovers store trees → (file_state kept).may_leave trees)
      × ((e : Error) × (fault ≡ Sqlite e) × FailsToCopy kept store e)

  -- a connection found what the files held; it had no tables where a first opening has left none, and is left as it was, or the keeper
  -- refused it
  pub record LeavesOpened (files : Files D) (fault : OpenFault) (rest : Left D g) : Type 0 where
    pub was : Held (FileStore D g)
    pub is_open : HasCleanDisk (file_state was) → IsOpened was
    pub finds : HasCleanDisk (file_state was) → FindsIn (image_of g files) (file_state was)
    pub leaves : ((fault ≡ NoTables) × (rest ≡ left.Connection was) × (is_blank (file_state was).now.schema ≡ true)
        × (HasCleanDisk (file_state was) → ¬ IsFirst (image_of g files))) ⊎ LeavesConnection was fault rest

  abbrev pub Leaves : Files D → OpenFault → Left D g → Type 0
  Leaves files fault left.Nothing = ⊥
  Leaves files fault (left.Files now) = OnlyReads g files.log now.log × OnlyReads g files.db now.db
      × (AreClean g now.log now.db → ExcusesReading g files now fault)
  Leaves files fault (left.Sqlite rest) =
      (mid : Files D) × OnlyReads g files.log mid.log × OnlyReads g files.db mid.db × (IsCleanLeft rest → LeavesFiles mid rest)
      × ((e : Error) × (fault ≡ Sqlite e) × (IsCleanLeft rest → FailsToOpenFiles mid rest e))
  Leaves files fault (left.Connection conn) = LeavesOpened files fault (left.Connection conn)
  Leaves files fault (left.Store store) = LeavesOpened files fault (left.Store store)

  -- the files that are left, once a store is closed: closing it writes nothing but what ends a transaction
  abbrev pub AreLeftIn : Left D g → Option (Files D) → Type 0
  AreLeftIn left.Nothing it = it ≡ None
  AreLeftIn (left.Files files) it = it ≡ Some files
  AreLeftIn (left.Sqlite rest) it = IsSomeAnd it (λ now. (now.log, now.db) ≡ files_left rest)
  AreLeftIn (left.Connection conn) it =
      IsSomeAnd it (λ now. (last : FileStore D g) × IsQuiet store.view store.faults recovers store.is_shielded conn.store last
      × ((now.log, now.db) ≡ store.files last))
  AreLeftIn (left.Store last) it = IsSomeAnd it (λ now. (now.log, now.db) ≡ store.files last)

  -- the same of a refusal
  abbrev pub GivesBackLeft : Left D g → Option (List ℕ) → Files D → Bool → Type 0
  GivesBackLeft rest None now is_whole = ⊥
  GivesBackLeft rest (Some bytes) now is_whole = (was : Files D) × AreLeftIn rest (Some was) × GivesBack g was now bytes is_whole
