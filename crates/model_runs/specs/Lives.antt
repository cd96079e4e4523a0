-- The lives of a token: a crash ends each, and the next one begins with the record that was left. How many checks of a PIN failed
-- over all of them.
use Rattle.std.specs.Prelude.{◌≡◌, ℕ, ◌+◌, length, List, [], ◌∷◌, Some, None}
use Rattle.ck_types.specs.declared.user_type.UserType.{UserType}
use Rattle.pin_record.specs.Charges.{spent}
use Rattle.pin_record.specs.Records.{TokenRecord}
use Rattle.model_worlds.specs.Worlds.{World, Move, Goes, event_of, checking, happens, after}
use Rattle.model_worlds.specs.Tries.{charges_of, events_of}
use Rattle.model_runs.specs.Runs.{Lasting, LeftAfter, lasting_of}

-- How many checks of a PIN have failed (ended wrong or abandoned) since it was last entered right or set, or the token
-- initialised. An event that met a resource error counts as what it would have been: the store may have its change.
abbrev pub failed_after : UserType → ℕ → World → Move → ℕ
failed_after who s w m = spent who s (charges_of w) (events_of w (Goes (event_of m)))

abbrev pub failed_in : UserType → ℕ → World → List Move → ℕ
failed_in who s w [] = s
failed_in who s w (m ∷ ms) = failed_in who (failed_after who s w m) (happens w m) ms

-- how many checks of it are in progress: a crash abandons them
abbrev pub in_progress : UserType → World → ℕ
in_progress who w = length (checking who w.checks)

-- what a crash may leave after a run from the world, before which it left what the world has
abbrev pub Leaves : World → List Move → Lasting → Type 0
Leaves w ms left = LeftAfter (λ l. l ≡ Some (lasting_of w)) w ms (Some left)

-- a life begins with this record, with no call pending and no check in progress
pub record BeginsWith (r : TokenRecord) (w : World) : Type 0 where
  pub token_record : w.token_record ≡ r
  pub checks : w.checks ≡ []
  pub idle : (app : ℕ) → (w.views app).question ≡ None
  pub records : (app : ℕ) → (w.views app).token_record ≡ w.token_record

-- the world that it began with, and what took place in it
pub record Life : Type 0 where
  pub world : World
  pub moves : List Move

-- The first one begins with this record. A crash ended each one, and left a store, with whose record the next one begins.
abbrev pub AreLives : TokenRecord → List Life → Type 0
AreLives r [] = Unit {0}
AreLives r (life ∷ more) =
    BeginsWith r life.world × ((left : Lasting) × Leaves life.world life.moves left × AreLives left.token_record more)

-- how many checks have failed over them, since the PIN was last entered right or set
abbrev pub failed_over : UserType → ℕ → List Life → ℕ
failed_over who s [] = s
failed_over who s (life ∷ more) =
    failed_over who (failed_in who s life.world life.moves + in_progress who (after life.world life.moves)) more
