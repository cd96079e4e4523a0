-- What a licence must permit of a client.
use Rattle.std.specs.Prelude.{◌≡◌, ℕ, List, ◌++◌, false, None}
use Rattle.ck_calls.specs.declared.reply.Reply.{Reply}
use Rattle.door.specs.Ends.{Reading, Writing}
use Rattle.line.specs.Permits.{Permits, PermitsOn}
use Rattle.line.specs.Turns.{reply_frame}
use Rattle.serve_base.specs.Short.{IsShort}
use Rattle.line_places.specs.declared.client.Client.{Client}
use Rattle.line_places.specs.declared.place.Place.{Place}
use Rattle.line_places.specs.Keeping.{IsClientAt}

module _ {R W : Type 0} where
  -- that what is to be written is, and the refusals of what is no call, where it may go on
  abbrev pub MayGoOn : (ℕ → List ℕ → Type 0) → (ℕ → List ℕ → List ℕ → Type 0) → (R → Reading) → (W → Writing) → Client R W → Type 0
  MayGoOn given allows reading writing c = c.is_owed ≡ false → c.connection.ended ≡ None
      → PermitsOn given allows (reading c.reader.inner) (writing c.writer.inner) c.connection

  -- that what is to be written is, and this reply, which is short
  abbrev pub MayTake : (ℕ → List ℕ → List ℕ → Type 0) → (W → Writing) → Client R W → Reply → Type 0
  MayTake allows writing c reply = c.connection.ended ≡ None → IsShort reply
      × Permits allows (writing c.writer.inner) (c.connection.pending ++ reply_frame reply)

  -- so it is of whoever is at this place
  abbrev pub MayGoOnAt : (ℕ → List ℕ → Type 0) → (ℕ → List ℕ → List ℕ → Type 0) → (R → Reading) → (W → Writing) → List (Place R W)
      → ℕ → Type 0
  MayGoOnAt given allows reading writing places j = (c : Client R W) → IsClientAt places j c → MayGoOn given allows reading writing c

  abbrev pub MayTakeAt : (ℕ → List ℕ → List ℕ → Type 0) → (W → Writing) → List (Place R W) → ℕ → Reply → Type 0
  MayTakeAt allows writing places j reply = (c : Client R W) → IsClientAt places j c → MayTake allows writing c reply
