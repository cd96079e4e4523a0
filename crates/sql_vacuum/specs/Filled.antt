-- A new store, and what it is once it has another store's rows.
use Rattle.std.specs.Prelude.{◌≡◌, ◌<◌, ℕ, [], ◌∷◌}
use Rattle.sqlite_catalog.specs.Listing.{AreListed}
use Rattle.sqlite_trees.specs.Objects.{catalog_tree, version_rows, version_tree}
use Rattle.sqlite_trees.specs.View.{View}
use Rattle.sqlite.specs.Steps.{IsFresh}
use Rattle.sql_statements.specs.Store.{body_row}
use Rattle.sql_statements.specs.Tables.{token_schema}
use Rattle.sql_vacuum.specs.Copies.{put_rows}

-- it has the two tables, and a row of the record with no bytes
pub record IsNewStore (v : View) : Type 0 where
  pub fresh : IsFresh v
  pub listed : AreListed (v.trees catalog_tree) token_schema
  pub record_is : v.trees 0 ≡ body_row (1, []) ∷ []
  pub objects_are : v.trees 1 ≡ []
  pub count_is : v.trees 2 ≡ []

-- its tables have the rows of another store's, and it lists them as before
pub record PutsTables (from old new : View) (version : ℕ) : Type 0 where
  pub copied : (t : ℕ) → t < 3 → new.trees t ≡ put_rows (from.trees t) (old.trees t)
  pub listed : new.trees catalog_tree ≡ old.trees catalog_tree
  pub version_is : new.trees version_tree ≡ version_rows version
