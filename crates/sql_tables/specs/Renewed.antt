-- What writing bodies again makes of them.
use Rattle.std.specs.Prelude.{◌≡◌, ℕ, pos, List, [], ◌∷◌, map, ⊤}
use Rattle.sql_tables.specs.declared.renewals.Renewal.{Renewal}
use Rattle.sql_statements.specs.Bodies.{Bodies, put_at}
use Rattle.sql_statements.specs.Rows.{natural}

-- the bodies after each renewal, in turn
abbrev pub put_each : List Renewal → List (ℕ × List ℕ) → List (ℕ × List ℕ)
put_each [] xs = xs
put_each (e ∷ es) xs = put_each es (map (put_at (natural e.id) e.body.items) xs)

-- each id is a natural number
abbrev pub AreNatural : List Renewal → Type 0
AreNatural [] = ⊤
AreNatural (e ∷ es) = (e.id ≡ pos (natural e.id)) × AreNatural es

abbrev pub renewed : List Renewal → List ℕ → Bodies → Bodies
renewed es bytes b = record { objects = put_each es b.objects; token_record = bytes; last_id = b.last_id }
