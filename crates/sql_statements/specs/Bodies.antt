-- What the two tables hold, in bytes.
use Rattle.std.specs.Prelude.{ℕ, ◌+◌, ◌-◌, ◌<◌, ◌≤◌, ◌^◌, ◌==◌, not, List, [], ◌∷◌, ◌++◌, map, find, filter, Option, if◌then◌else◌, ⊤}
use Rattle.std.specs.Option.{option_map}

-- the bodies of the objects under their ids, in the order in which they came, and the body of the record; then the greatest id
-- that was ever given, 0 where none was
pub record Bodies : Type 0 where
  pub objects : List (ℕ × List ℕ)
  pub token_record : List ℕ
  pub last_id : ℕ

-- ids rise, from above one on and to the last that was given
abbrev pub RowIdsRise : ℕ → List (ℕ × List ℕ) → ℕ → Type 0
RowIdsRise low [] last = ⊤
RowIdsRise low (e ∷ es) last = (low < e.0) × (e.0 ≤ last) × RowIdsRise e.0 es last

-- ids are signed numbers of 64 bits above 0
abbrev pub greatest_row_id : ℕ
greatest_row_id = 2 ^ 63 - 1

abbrev pub row_ids : Bodies → List ℕ
row_ids b = map (λ e. e.0) b.objects

-- the body that has this id
abbrev pub body_at : Bodies → ℕ → Option (List ℕ)
body_at b id = option_map (λ e. e.1) (find (λ e. e.0 == id) b.objects)

-- ---- changes

-- of a new store
abbrev pub new_bodies : List ℕ → Bodies
new_bodies bytes = record { objects = []; token_record = bytes; last_id = 0 }

-- the body comes at the end, under one more than the greatest id ever given
abbrev pub with_body : List ℕ → Bodies → Bodies
with_body bytes b = record { objects = b.objects ++ (b.last_id + 1, bytes) ∷ []; token_record = b.token_record; last_id = b.last_id + 1 }

abbrev pub put_at : ℕ → List ℕ → ℕ × List ℕ → ℕ × List ℕ
put_at id bytes e = if e.0 == id then (e.0, bytes) else e

-- another body stands under an id, at the same index
abbrev pub with_body_at : ℕ → List ℕ → Bodies → Bodies
with_body_at id bytes b = record { objects = map (put_at id bytes) b.objects; token_record = b.token_record; last_id = b.last_id }

abbrev pub without_body : ℕ → Bodies → Bodies
without_body id b = record { objects = filter (λ e. not (e.0 == id)) b.objects; token_record = b.token_record; last_id = b.last_id }

abbrev pub bodies_with_record : List ℕ → Bodies → Bodies
bodies_with_record bytes b = record { objects = b.objects; token_record = bytes; last_id = b.last_id }

-- no objects and another record; ids go on
abbrev pub bodies_after_reset : List ℕ → Bodies → Bodies
bodies_after_reset bytes b = record { objects = []; token_record = bytes; last_id = b.last_id }
