-- What queries return of rows.
use Rattle.std.specs.Prelude.{ℕ, ℤ, pos, negsuc, List, [], ◌∷◌, map}
use Rattle.sqlite_value.specs.Order.{Row, column}
use Rattle.sqlite.specs.Tree.{rowid}

abbrev pub natural : ℤ → ℕ
natural (pos n) = n
natural (negsuc n) = 0

-- the columns that are returned of a table: the body, and the id and the body
abbrev pub bodies : List Row → List Row
bodies = map (λ r. column r 2 ∷ [])

abbrev pub ids_and_bodies : List Row → List Row
ids_and_bodies = map (λ r. rowid r ∷ column r 2 ∷ [])
