-- What the opening of a store makes of a connection.
use Rattle.std.specs.Prelude.{◌≡◌, ◌≢◌, ◌⊎◌, ◌≤◌, ◌||◌, ◌&&◌, ◌==◌, length, ℕ, Bool, true, List, Contains, All, bytes_eq, codes, IsTrue, Option, Some}
use Rattle.std.specs.List.{list_any}
use Rattle.sqlite_value.specs.declared.value.Value.TheVariants.{Blob}
use Rattle.sqlite.specs.Table.{Table}
use Rattle.sqlite_value.specs.Order.{Row, column}
use Rattle.sqlite.specs.Schema.{Schema}
use Rattle.sqlite.specs.Tree.{Trees}
use Rattle.sqlite_trees.specs.View.{doubt}
use Rattle.sqlite.specs.State.{State, HasCleanDisk}
use Rattle.pin_record.specs.Records.{TokenRecord, new_record}
use Rattle.keep.specs.declared.keep.KeepFault.{KeepFault}
use Rattle.keep.specs.declared.keep.KeepFault.TheVariants.{Damaged}
use Rattle.keep.specs.Contents.{Contents, new_contents}
use Rattle.keep.specs.Keeping.{Terms}
use Rattle.sql_statements.specs.Tables.{no_schema, token_schema}
use Rattle.keep_sql_model.specs.Store.{Holds, IsAt, IsStore}
use Rattle.sql_statements.specs.Rows.{bodies, ids_and_bodies}
use Rattle.keep_sql_model.specs.Formats.{HoldsEither, is_old}
use Rattle.keep_sql_model.specs.Rows.{ShowRecordEither, ShowsEither}

-- The record's table is one row, the body of this record. Each row of the other table is an id above 0 with the body of a token
-- object. Each body has format 2, or format 1.
pub record AllDecode (trees : Trees) (r : TokenRecord) : Type 0 where
  pub record_is : ShowRecordEither (bodies (trees 0)) r
  pub objects_are : All ShowsEither (ids_and_bodies (trees 1))

abbrev pub HasOldAt : ℕ → List Row → Type 0
HasOldAt at rows = (row : Row) × Contains rows row × (bytes : List ℕ) × (column row at ≡ Blob bytes) × (is_old bytes ≡ true)

-- a body of format 1 is there
abbrev pub HasOld : Trees → Type 0
HasOld trees = HasOldAt 0 (bodies (trees 0)) ⊎ HasOldAt 1 (ids_and_bodies (trees 1))

-- the table has the name of one of the two
abbrev pub is_token_table : Table → Bool
is_token_table t = bytes_eq t.name (codes "record") || bytes_eq t.name (codes "objects")

abbrev pub has_tables : Schema → Bool
has_tables schema = list_any is_token_table schema.tables

-- no table, index or view
abbrev pub is_blank : Schema → Bool
is_blank schema = (length schema.tables == 0) && (length schema.indexes == 0) && (length schema.views == 0)

-- no table, or the two
abbrev pub IsOurs : Schema → Type 0
IsOurs schema = (schema ≡ no_schema) ⊎ (schema ≡ token_schema)

-- The store is open. It holds what it held, in whichever format, each body in format 2, or, where it had no table, a new token's
-- contents; and what it held decodes.
pub record Opened (old new : State) (r : TokenRecord) : Type 0 where
  pub clean : doubt old.is_clean ≤ doubt new.is_clean
  pub held : (c : Contents) → HoldsEither old c → HasCleanDisk new → IsTrue new.is_open × IsAt new c × (r ≡ c.token_record)
  pub fresh : old.now.schema ≡ no_schema → HasCleanDisk new → IsTrue new.is_open × IsAt new (new_contents new_record) × (r ≡ new_record)
  pub decodes : old.now.schema ≡ token_schema → HasCleanDisk new → IsTrue new.is_open × AllDecode old.now.trees r

-- It is refused, and as it was. A crash leaves what it could leave before, or one thing more. Where there was no table, that is
-- the whole of a new store; where a body has format 1, the whole of the contents in format 2. A store that is damaged wasn't
-- written at all. What holds contents, in whichever format, or has no table, isn't called damaged.
pub record NotOpened (old new : State) (fault : KeepFault) : Type 0 where
  pub clean : doubt old.is_clean ≤ doubt new.is_clean
  pub same : IsOurs old.now.schema → HasCleanDisk new → IsTrue new.is_open → (new.now ≡ old.now) × (new.committed ≡ old.committed)
      × (new.in_transaction ≡ old.in_transaction)
  pub crash : IsOurs old.now.schema → ¬ HasOld old.now.trees → HasCleanDisk new → (left : Trees) → new.may_leave left
      → old.may_leave left ⊎ ((old.now.schema ≡ no_schema) × IsStore left (new_contents new_record))
  pub unwritten : fault ≡ Damaged → IsOurs old.now.schema → HasCleanDisk new → (left : Trees) → new.may_leave left → old.may_leave left
  pub held : (c : Contents) → Holds old c → Holds new c
  pub held_either : (c : Contents) → HoldsEither old c → HoldsEither new c
  pub left : (c : Contents) → Holds old c → HasCleanDisk new → (left : Trees) → new.may_leave left → old.may_leave left
  pub left_either : (c : Contents) → HoldsEither old c → HasCleanDisk new → (left : Trees) → new.may_leave left → old.may_leave left
      ⊎ IsStore left c
  pub undamaged : (c : Contents) → HoldsEither old c → HasCleanDisk new → fault ≢ Damaged
  pub fresh : old.now.schema ≡ no_schema → HasCleanDisk new → fault ≢ Damaged

-- a keeper as it is opened over a store that holds contents: it holds these and no others, and a crash leaves them alone
pub record Adopts {K : Type 0} (terms : Terms K) (k : K) (c : Contents) : Type 0 where
  pub held : terms.holds k c
  pub only : (d : Contents) → terms.holds k d → d ≡ c
  pub alone : (left : Option Contents) → terms.may_leave k left → left ≡ Some c
