-- Rows that are put into a tree one after the other.
use Rattle.std.specs.Prelude.{◌≡◌, ◌==◌, ◌<◌, ◌≤◌, ℕ, List, fold, if◌then◌else◌}
use Rattle.sqlite_value.specs.Order.{Row}
use Rattle.sqlite_trees.specs.Tree.{put_row}
use Rattle.sqlite_trees.specs.View.{View, OnlyWrites}

-- only cursors may differ
abbrev pub OnlyCursorsMove : View → View → Type 0
OnlyCursorsMove old new = new ≡ record old { cursors = new.cursors }

abbrev pub put_rows : List Row → List Row → List Row
put_rows rows es = fold (λ (xs : List Row) (row : Row). put_row row xs) es rows

-- one tree has these rows, and those that it had under other rowids
pub record PutsEach (old new : View) (tree : ℕ) (rows : List Row) : Type 0 where
  pub writes : OnlyWrites old new
  pub trees : (t : ℕ) → new.trees t ≡ (if t == tree then put_rows rows (old.trees tree) else old.trees t)

-- the trees below a number have the rows of another store's trees, and those that they had under other rowids
pub record PutsTrees (from old new : View) (count : ℕ) : Type 0 where
  pub writes : OnlyWrites old new
  pub copied : (t : ℕ) → t < count → new.trees t ≡ put_rows (from.trees t) (old.trees t)
  pub kept : (t : ℕ) → count ≤ t → new.trees t ≡ old.trees t
