-- What the tables hold, and what a call does to them.
use Rattle.std.specs.Prelude.{◌≡◌, ◌⊎◌, ℕ, zero, suc, pos, ◌≤◌, false, List, [], ◌∷◌, map, codes, Some, IsTrue}
use Rattle.sqlite_value.specs.declared.value.Value.TheVariants.{Null, Int, Text, Blob}
use Rattle.sqlite_value.specs.Order.{Row}
use Rattle.sqlite.specs.Tree.{Trees}
use Rattle.sqlite_trees.specs.View.{doubt}
use Rattle.sqlite.specs.Effect.{Database, IsDatabase}
use Rattle.sqlite.specs.Given.{IsPlain}
use Rattle.sqlite.specs.Command.{Command}
use Rattle.sqlite.proofs.Callers.{command_of}
use Rattle.sqlite.specs.Listing.{understood, reads_listing}
use Rattle.sqlite.specs.State.{State, HasCleanDisk}
use Rattle.sql_statements.specs.Tables.{token_schema}
use Rattle.sql_statements.specs.Bodies.{Bodies, RowIdsRise, body_at}

-- the row of an id and a body
abbrev pub body_row : ℕ × List ℕ → Row
body_row p = Int (pos p.0) ∷ Null ∷ Blob p.1 ∷ []

-- the row of sqlite_sequence, which comes with the first object
abbrev pub counter_rows : ℕ → List Row
counter_rows zero = []
counter_rows (suc n) = (Int (pos 1) ∷ Text (codes "objects") ∷ Int (pos (suc n)) ∷ []) ∷ []

-- the tables are these bodies, and no others
pub record HasRows (trees : Trees) (b : Bodies) : Type 0 where
  pub record_is : trees 0 ≡ body_row (1, b.token_record) ∷ []
  pub objects_are : trees 1 ≡ map body_row b.objects
  pub count_is : trees 2 ≡ counter_rows b.last_id
  pub ids : RowIdsRise 0 b.objects b.last_id

-- the same, and the trees list the two tables and obey them
pub record HasTables (trees : Trees) (b : Bodies) : Type 0 where
  pub rows : HasRows trees b
  pub sound : IsDatabase (record { schema = token_schema; trees = trees })

-- an open connection on the two tables, with no transaction
pub record IsAtRows (s : State) (b : Bodies) : Type 0 where
  pub schema : s.now.schema ≡ token_schema
  pub settled : s.committed ≡ s.now
  pub autocommit : s.in_transaction ≡ false
  pub stores : HasRows s.now.trees b
  pub sound : IsDatabase s.now

-- a connection that is shut, or whose disk was faulty, is at any bodies
abbrev pub HoldsRows : State → Bodies → Type 0
HoldsRows s b = HasCleanDisk s → IsTrue s.is_open → IsAtRows s b

-- while the disk is faithful, the connection is open
abbrev pub IsReady : State → Type 0
IsReady s = HasCleanDisk s → IsTrue s.is_open

-- an open connection sees this database, with no transaction
pub record ShowsNow (s : State) (db : Database) : Type 0 where
  pub now : s.now ≡ db
  pub settled : s.committed ≡ db
  pub autocommit : s.in_transaction ≡ false

abbrev pub Sees : State → Database → Type 0
Sees s db = HasCleanDisk s → IsTrue s.is_open → ShowsNow s db

-- nothing was written
pub record Unwritten (old new : State) : Type 0 where
  pub clean : doubt old.is_clean ≤ doubt new.is_clean
  pub was_open : HasCleanDisk new → IsTrue new.is_open → IsTrue old.is_open
  pub sees : (db : Database) → Sees old db → Sees new db
  pub crash : HasCleanDisk new → (left : Trees) → new.may_leave left → old.may_leave left

-- the same, where the database has the two tables
abbrev pub SeesTables : State → Database → Type 0
SeesTables s db = HasCleanDisk s → IsTrue s.is_open → ShowsNow s db × (db.schema ≡ token_schema)

-- a call that reads them: nothing was written
pub record OnlyReads (old new : State) : Type 0 where
  pub clean : doubt old.is_clean ≤ doubt new.is_clean
  pub was_open : HasCleanDisk new → IsTrue new.is_open → IsTrue old.is_open
  pub sees : (db : Database) → SeesTables old db → SeesTables new db
  pub crash : HasCleanDisk new → (db : Database) → SeesTables old db → (left : Trees) → new.may_leave left → old.may_leave left

-- the row of the body that has an id
abbrev pub ShowsBody : Bodies → ℕ → Row → Type 0
ShowsBody b id row = (bytes : List ℕ) × (body_at b id ≡ Some bytes) × (row ≡ Blob bytes ∷ [])

-- what a text means there
abbrev pub command : List ℕ → Command
command sql = command_of (understood token_schema sql)

-- the text is a query of the two tables
abbrev pub IsQuery : List ℕ → Type 0
IsQuery sql = IsPlain (understood token_schema sql) × (reads_listing token_schema sql ≡ false)

-- the statement was run and committed
pub record Committed (old new : State) (step : Bodies → Bodies) : Type 0 where
  pub clean : doubt old.is_clean ≤ doubt new.is_clean
  pub held : (b : Bodies) → IsReady old → HoldsRows old b → HoldsRows new (step b)
  pub crash : (b : Bodies) → IsReady old → HoldsRows old b → HasCleanDisk new → (left : Trees) → new.may_leave left
      → HasTables left (step b)

-- it was not
pub record Uncommitted (old new : State) (step : Bodies → Bodies) : Type 0 where
  pub clean : doubt old.is_clean ≤ doubt new.is_clean
  pub held : (b : Bodies) → IsReady old → HoldsRows old b → HoldsRows new b
  pub crash : (b : Bodies) → IsReady old → HoldsRows old b → HasCleanDisk new → (left : Trees) → new.may_leave left
      → old.may_leave left ⊎ HasTables left (step b)

-- ---- the same with no premise, where a call before has found the connection open

-- rows were read, and nothing was written
pub record RowsStayed (old new : State) : Type 0 where
  pub clean : doubt old.is_clean ≤ doubt new.is_clean
  pub was_open : HasCleanDisk new → IsTrue new.is_open → IsTrue old.is_open
  pub held : (b : Bodies) → HoldsRows old b → HoldsRows new b
  pub crash : (b : Bodies) → HoldsRows old b → HasCleanDisk new → (left : Trees) → new.may_leave left → old.may_leave left

-- the change was acknowledged
pub record RowsChanged (old new : State) (step : Bodies → Bodies) : Type 0 where
  pub clean : doubt old.is_clean ≤ doubt new.is_clean
  pub was_open : HasCleanDisk new → IsTrue old.is_open
  pub held : (b : Bodies) → HoldsRows old b → HoldsRows new (step b)
  pub crash : (b : Bodies) → HoldsRows old b → HasCleanDisk new → (left : Trees) → new.may_leave left → HasTables left (step b)

-- it was refused
pub record RowsFailed (old new : State) (step : Bodies → Bodies) : Type 0 where
  pub clean : doubt old.is_clean ≤ doubt new.is_clean
  pub was_open : HasCleanDisk new → IsTrue new.is_open → IsTrue old.is_open
  pub held : (b : Bodies) → HoldsRows old b → HoldsRows new b
  pub crash : (b : Bodies) → HoldsRows old b → HasCleanDisk new → (left : Trees) → new.may_leave left → old.may_leave left
      ⊎ (IsTrue old.is_open × HasTables left (step b))
