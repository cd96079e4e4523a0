-- A database file by itself.
use Rattle.std.specs.Prelude.{◌≡◌, List, [], ℕ}
use Rattle.sqlite_trees.specs.Objects.{version_rows, version_tree}
use Rattle.sqlite.specs.Tree.{Trees}
use Rattle.sqlite.specs.Files.{HoldsDatabase}
use Rattle.sql_statements.specs.Bodies.{Bodies}
use Rattle.sql_statements.specs.Store.{HasTables}

-- with no log beside it, a file of these bytes holds a database whose tables are these bodies, with a user version
pub record IsFileOf (bytes : List ℕ) (b : Bodies) (version : ℕ) : Type 0 where
  pub db : Trees
  pub holds : ∥ HoldsDatabase (record { log = []; db = bytes }) db ∥₁
  pub tables : HasTables db b
  pub version_is : db version_tree ≡ version_rows version
