-- A list of which some entries are gone. They keep their places, so that none behind them moves, and a contract sees the others.
use Rattle.std.specs.Prelude.{Bool, List, [], ◌∷◌, if◌then◌else◌}

module _ {S E : Type 0} (is_gone : S → Bool) (item : S → E) where
  -- what the entries hold that aren't gone
  abbrev pub live : List S → List E
  live [] = []
  live (s ∷ xs) = if is_gone s then live xs else item s ∷ live xs
