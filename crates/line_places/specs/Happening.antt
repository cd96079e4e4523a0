-- What becomes of a worker's clients.
use Rattle.std.specs.Prelude.{◌≡◌, ℕ, ◌%◌, [], ◌∷◌, ◌++◌, length, Option, Some, None, slice_get, set}
use Rattle.ck_calls.specs.declared.reply.Reply.{Reply}
use Rattle.door.specs.Ends.{Reading, Writing}
use Rattle.line.specs.declared.next.Next.{Next}
use Rattle.line.specs.declared.next.Next.TheVariants.{Call, Nothing, Ended}
use Rattle.line_places.specs.declared.client.Client.{Client}
use Rattle.line_places.specs.declared.place.Place.{Place}
use Rattle.line_places.specs.declared.places.Places.{Places}
use Rattle.line_places.specs.Coming.{Sent, Went}
use Rattle.line_places.specs.Keeping.{app_at, HasGone, IsClientAt, IsOwed}

module _ {R W : Type 0} where
  -- it is the same worker, with the same seed and as many places
  pub record SameWorker (old new : Places R W) : Type 0 where
    pub seed : new.seed ≡ old.seed
    pub number : new.number ≡ old.number
    pub count : length new.places.items ≡ length old.places.items

  -- nothing was given and nothing taken
  pub record PlacesAreQuiet (old new : Places R W) : Type 0 where
    pub asked : new.asked.items ≡ old.asked.items
    pub told : new.told.items ≡ old.told.items

  -- an application of this worker, which has a client now
  abbrev pub PlacesHaveApp : Places R W → ℕ → Type 0
  PlacesHaveApp places app = (app % 4 ≡ places.number) × (¬ HasGone places.past.items app)

  -- a call was given, of the client at this place, or none
  abbrev pub PlaceGives : Places R W → Places R W → ℕ → Next → Type 0
  PlaceGives old new j (Call call) = PlacesHaveApp old call.app × (new.asked.items ≡ old.asked.items ++ call ∷ [])
      × (new.told.items ≡ old.told.items) × IsOwed new.places.items j call.app
  PlaceGives old new j Nothing = PlacesAreQuiet old new
  PlaceGives old new j (Ended ending) = PlacesAreQuiet old new

  -- a client came to this place, of its next application, and nothing else changed
  pub record ClientComes (old new : Places R W) (j : ℕ) : Type 0 where
    pub place : Place R W
    pub at : slice_get old.places.items j ≡ Some place
    pub client : Client R W
    pub app : client.app ≡ app_at old.number (length old.places.items) j place.turn
    pub places : new.places.items ≡ set old.places.items j (record { turn = place.turn; client = Some client })

  -- the client at this place is there no more
  abbrev pub Closes : Places R W → Places R W → ℕ → Option ℕ → Type 0
  Closes old new j (Some app) = PlacesHaveApp old app
      × ((c : Client R W) × (new.past.items ≡ old.past.items ++ c ∷ []) × (c.app ≡ app) × IsClientAt old.places.items j c)
  Closes old new j None = new ≡ old

  -- by its own ends the client at this place went on
  abbrev pub WentAt : (R → Reading) → (W → Writing) → Places R W → Places R W → ℕ → Next → Type 0
  WentAt reading writing old new j next = (c c' : Client R W) → IsClientAt old.places.items j c → IsClientAt new.places.items j c'
      → Went reading writing c c' next

  -- and took a reply
  abbrev pub SentAt : (W → Writing) → Places R W → Places R W → ℕ → Reply → Type 0
  SentAt writing old new j reply = (c c' : Client R W) → IsClientAt old.places.items j c → IsClientAt new.places.items j c' → Sent writing c c' reply
