-- Which applications' connections came to the places of a worker.
use Rattle.std.specs.Prelude.{◌≡◌, ◌⊎◌, ℕ, ◌<◌, ◌^◌, List, [], ◌∷◌, length, Some, None, slice_get}
use Rattle.line_places.specs.declared.client.Client.{Client}
use Rattle.line_places.specs.declared.place.Place.{Place}
use Rattle.line_places.specs.declared.places.Places.{Places}
use Rattle.line_places.specs.Keeping.{app_at}

module _ {R W : Type 0} where
  -- nobody is at this place, and the next client there is of this application
  pub record IsNext (s : ℕ) (places : List (Place R W)) (j app : ℕ) : Type 0 where
    pub place : Place R W
    pub at : slice_get places j ≡ Some place
    pub none : place.client ≡ None
    pub turns : place.turn < 2 ^ 55
    pub app_is : app ≡ app_at s (length places) j place.turn

  -- the turn of a client that is there, or an earlier one
  abbrev pub IsPast : ℕ → Place R W → Type 0
  IsPast turn place = (turn < place.turn) ⊎ ((turn ≡ place.turn) × ((c : Client R W) × (place.client ≡ Some c)))

  -- the application had its turn at a place, or has it
  pub record HasCome (s : ℕ) (places : List (Place R W)) (app : ℕ) : Type 0 where
    pub j : ℕ
    pub turn : ℕ
    pub place : Place R W
    pub at : slice_get places j ≡ Some place
    pub past : IsPast turn place
    pub app_is : app ≡ app_at s (length places) j turn

  abbrev pub AllCame : ℕ → List (Place R W) → List ℕ → Type 0
  AllCame s places [] = Unit {0}
  AllCame s places (app ∷ apps) = HasCome s places app × AllCame s places apps

  -- whoever had come has come
  abbrev pub KeepsCome : Places R W → Places R W → Type 0
  KeepsCome old new = (app : ℕ) → HasCome old.number old.places.items app → HasCome new.number new.places.items app

  -- nothing changed at the other places
  abbrev pub OthersStay : Places R W → Places R W → ℕ → Type 0
  OthersStay old new j = (i : ℕ) → (i ≡ j → ⊥) → slice_get new.places.items i ≡ slice_get old.places.items i
