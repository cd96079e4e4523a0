-- What the connections of four seats read and wrote, by the history of their calls.
use Rattle.std.specs.Prelude.{◌≡◌, ◌≢◌, ℕ, ◌%◌, List, [], Option}
use Rattle.model_worlds.specs.Worlds.{World}
use Rattle.door.specs.Ends.{Reading, Writing}
use Rattle.token.specs.States.{HasJobs, Lasting}
use Rattle.model_worlds.specs.Traces.{replies_to}
use Rattle.hall_log.specs.Lists.{of}
use Rattle.hall_log.specs.Histories.{History}
use Rattle.hall.specs.Terms.{MachineTerms}
use Rattle.hall.specs.Histories.{Counts, IsHistory, SpendsOver, replies_in, told_in}
use Rattle.hall.specs.Held.{Interleaves}
use Rattle.hall.specs.SeatEvents.{asked_in}
use Rattle.line.specs.Whole.{Lived}
use Rattle.line.specs.Words.{words_for}
use Rattle.line_places.specs.declared.client.Client.{Client}
use Rattle.line_places.specs.Keeping.{IsLife}
use Rattle.line_places.specs.Tying.{Tied}
use Rattle.hall_sockets.specs.declared.seat.SocketSeat.{SocketSeat}
use Rattle.hall_sockets.specs.Calling.{called_in}
use Rattle.hall_sockets.specs.Telling.{apps_of, gone_in}

-- a connection with its application, and what was read and written of it
abbrev pub Connection : Type 0
Connection = Client Reading Writing

-- a connection that this seat has or had
abbrev pub SeatHas : {S L C : Type 0} → SocketSeat S L C → Connection → Type 0
SeatHas seat it = IsLife seat.clients.places.items seat.clients.past.items it

-- The connections of seat s by a history. The calls that were read of a connection, in order, are those of its application there,
-- with the words of its application under the seed from the first on. What its writer took is the frames of the replies to them in
-- that history, in order, with the answers to what is no call at their places, or a beginning of that (`Lived`). An application of
-- this seat without a connection is none of the history's. The connections that are there no more are those whose applications
-- disconnected there, in that order. What was read of a connection its own reader gave, and what was written its own writer took: both
-- are ends of the one connection that came for its application (`Tied`).
pub record WasServed {S L C : Type 0} (given : ℕ → List ℕ → Type 0) (seed : List ℕ) (seat : SocketSeat S L C) (s : ℕ)
    (history : History) : Type 0 where
  pub number : seat.clients.number ≡ s
  pub each : (it : Connection) → SeatHas seat it
      → ∥ Lived (words_for seed it.app) it.connection (of it.app (called_in history)) (replies_to it.app (told_in history)) ∥₁
  pub tied : (it : Connection) → SeatHas seat it → ∥ Tied given (λ r. r) (λ w. w) it ∥₁
  pub others : (app : ℕ) → app % 4 ≡ s → ((it : Connection) → SeatHas seat it → it.app ≢ app) → (of app (called_in history) ≡ [])
      × (replies_to app (told_in history) ≡ [])
  pub left : apps_of seat.clients.past.items ≡ gone_in (asked_in (of s history))

-- Four seats on a socket were held before a machine: what they put is one history, which the machine took and the log has (`served`),
-- and each connection was served by it. Where the machine's store is faithful and no call was pending, it is a run from the world that the machine refined.
-- While the machine had an id for each object to come, no answer was CKR_DEVICE_ERROR.
pub record WereServed {S L C T : Type 0} (terms : MachineTerms T) (served : History → Type 0)
    (given : ℕ → List ℕ → Type 0) (seed : List ℕ)
    (seats : SocketSeat S L C × SocketSeat S L C × SocketSeat S L C × SocketSeat S L C) (before after : T) : Type 0 where
  pub history : History
  pub told : served history
  pub interleaves : Interleaves history
  pub seat0 : ∥ WasServed given seed seats.0 0 history ∥₁
  pub seat1 : ∥ WasServed given seed seats.1 1 history ∥₁
  pub seat2 : ∥ WasServed given seed seats.2 2 history ∥₁
  pub seat3 : ∥ WasServed given seed seats.3 3 history ∥₁
  pub counts : Counts (terms.doubt before) (terms.doubt after) (terms.failures before) (terms.failures after) (replies_in (told_in history))
  pub runs : terms.doubt after ≡ 0 → (w : World) → terms.shows before w → HasJobs w []
      → IsHistory (terms.shows after) (terms.leaves before) (terms.leaves after) w history
  pub spends : SpendsOver terms before after history
