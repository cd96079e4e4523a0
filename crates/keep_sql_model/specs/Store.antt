-- What the tables hold, as contents.
use Rattle.std.specs.Prelude.{◌≡◌, ◌⊎◌, ℕ, ◌≤◌, false, List, [], ◌∷◌, map, Option, Some, None, IsTrue, ⊤}
use Rattle.sqlite_value.specs.declared.value.Value.TheVariants.{Blob}
use Rattle.sqlite_value.specs.Order.{Row}
use Rattle.sqlite.specs.Tree.{Trees}
use Rattle.sqlite_trees.specs.View.{doubt}
use Rattle.sqlite.specs.Effect.{IsDatabase}
use Rattle.sqlite.specs.State.{State, HasCleanDisk}
use Rattle.ck_types.specs.declared.entry.Entry.{Entry}
use Rattle.attrs.specs.Objects.{IsObject}
use Rattle.attrs.specs.Stored as object
use Rattle.pin_record.specs.Records.{TokenRecord}
use Rattle.pin_record.specs.Stored as token
use Rattle.keep.specs.Contents.{Contents, IsSound, object_at}
use Rattle.sql_statements.specs.Tables.{token_schema}
use Rattle.sql_statements.specs.Store.{body_row, counter_rows}

abbrev pub Body : Type 0
Body = List Entry

-- one spelling for each object and each record
unfoldable pub encoded : Body → List ℕ
encoded o = object.stored_form o

unfoldable pub encoded_record : TokenRecord → List ℕ
encoded_record r = token.stored_record_form r

abbrev pub row_of_object : ℕ × Body → Row
row_of_object p = body_row (p.0, encoded p.1)

abbrev pub record_row : TokenRecord → Row
record_row r = body_row (1, encoded_record r)

abbrev pub AreObjects : List (ℕ × Body) → Type 0
AreObjects [] = ⊤
AreObjects (e ∷ es) = IsObject e.1 × AreObjects es

-- the tables are these contents, and no others
pub record Stores (trees : Trees) (c : Contents) : Type 0 where
  pub record_is : trees 0 ≡ record_row c.token_record ∷ []
  pub objects_are : trees 1 ≡ map row_of_object c.objects
  pub count_is : trees 2 ≡ counter_rows c.last_id
  pub sound : IsSound c
  pub is_record : token.IsRecord c.token_record
  pub are_objects : AreObjects c.objects

-- the same, and the trees list the two tables and obey them
pub record IsStore (trees : Trees) (c : Contents) : Type 0 where
  pub stores : Stores trees c
  pub sound : IsDatabase (record { schema = token_schema; trees = trees })

-- the trees are the store of contents, or no token's
abbrev pub ReadsAs : Trees → Option Contents → Type 0
ReadsAs trees (Some c) = IsStore trees c
ReadsAs trees None = (c : Contents) → ¬ IsStore trees c

-- an open connection on the two tables, with no transaction
pub record IsAt (s : State) (c : Contents) : Type 0 where
  pub schema : s.now.schema ≡ token_schema
  pub settled : s.committed ≡ s.now
  pub autocommit : s.in_transaction ≡ false
  pub stores : Stores s.now.trees c
  pub sound : IsDatabase s.now

-- a connection that is shut, or whose disk was faulty, is at any contents
abbrev pub Holds : State → Contents → Type 0
Holds s c = HasCleanDisk s → IsTrue s.is_open → IsAt s c

-- what a crash at this moment may leave
abbrev pub StateMayLeave : State → Option Contents → Type 0
StateMayLeave s left = HasCleanDisk s × ((trees : Trees) × s.may_leave trees × ReadsAs trees left)

-- a read
pub record Stayed (old new : State) : Type 0 where
  pub clean : doubt old.is_clean ≤ doubt new.is_clean
  pub held : (c : Contents) → Holds old c → Holds new c
  pub crash : (c : Contents) (left : Option Contents) → Holds old c → StateMayLeave new left → StateMayLeave old left

-- an acknowledged change, and a refused one
pub record Changed (old new : State) (step : Contents → Contents) : Type 0 where
  pub clean : doubt old.is_clean ≤ doubt new.is_clean
  pub held : (c : Contents) → Holds old c → Holds new (step c)
  pub crash : (c : Contents) (left : Option Contents) → Holds old c → StateMayLeave new left → left ≡ Some (step c)

pub record Failed (old new : State) (step : Contents → Contents) : Type 0 where
  pub clean : doubt old.is_clean ≤ doubt new.is_clean
  pub held : (c : Contents) → Holds old c → Holds new c
  pub crash : (c : Contents) (left : Option Contents) → Holds old c → StateMayLeave new left → StateMayLeave old left ⊎ (left ≡ Some (step c))

-- a row that is the stored form of the object with an id
pub record RowShows (c : Contents) (id : ℕ) (row : Row) : Type 0 where
  pub body : Body
  pub is : object_at c id ≡ Some body
  pub row_is : row ≡ Blob (encoded body) ∷ []
  pub is_object : IsObject body
