-- The bytes of a client are those of its own reader and its own writer.
use Rattle.std.specs.Prelude.{◌≡◌, ℕ, List, []}
use Rattle.door.specs.Ends.{HasGiven, Reading, Writing}
use Rattle.line_places.specs.declared.client.Client.{Client}
use Rattle.line_places.specs.declared.place.Place.{Place}
use Rattle.line_places.specs.declared.places.Places.{Places}
use Rattle.line_places.specs.Keeping.{IsLife}

-- new ends of an application
pub record AreEndsOf (app : ℕ) (r : Reading) (w : Writing) : Type 0 where
  pub reader : r.app ≡ app
  pub writer : w.app ≡ app
  pub gave : r.gave ≡ []
  pub took : w.took ≡ []

module _ {R W : Type 0} (given : ℕ → List ℕ → Type 0) (reading : R → Reading) (writing : W → Writing) where
  -- Its ends are of its application. Its connection has read all that its reader gave, which is known to be given, and written all
  -- that its writer took.
  pub record Tied (c : Client R W) : Type 0 where
    pub has : HasGiven given (reading c.reader.inner).app (reading c.reader.inner).gave
    pub reader : (reading c.reader.inner).app ≡ c.app
    pub writer : (writing c.writer.inner).app ≡ c.app
    pub read : c.connection.read ≡ (reading c.reader.inner).gave
    pub written : c.connection.written ≡ (writing c.writer.inner).took

  -- so it is with each client that there is or was
  abbrev pub AllTied : List (Place R W) → List (Client R W) → Type 0
  AllTied places past = (c : Client R W) → IsLife places past c → Tied c

  -- where it was so with all before, it is so after
  abbrev pub StaysTied : Places R W → Places R W → Type 0
  StaysTied old new = AllTied old.places.items old.past.items → AllTied new.places.items new.past.items
