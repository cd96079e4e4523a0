-- What a seat does.
use Rattle.std.specs.Prelude.{◌≡◌, ◌⊎◌, ◌%◌, ◌∷◌, [], ◌++◌, ℕ, List, Option, Some, None, true}
use Rattle.ck_calls.specs.declared.reply.Reply.{Reply}
use Rattle.door.specs.Ends.{Reading, Writing}
use Rattle.serve_base.specs.Short.{IsShortCall}
use Rattle.ck_calls.specs.declared.app_call.AppCall.{AppCall}
use Rattle.hall_log.specs.Histories.{Exchange}
use Rattle.hall.specs.SeatEvents.{asked_in, heard_in, seat_app}
use Rattle.hall.specs.declared.seats.SeatEvent.{SeatEvent}
use Rattle.hall.specs.declared.seats.SeatEvent.TheVariants.{Call, Gone}
use Rattle.line_places.specs.declared.client.Client.{Client}
use Rattle.line_places.specs.Keeping.{HasGone, IsClientAt, IsOwed}
use Rattle.line_places.specs.Permitting.{MayGoOnAt}
use Rattle.line_places.specs.Tying.{AllTied}
use Rattle.hall_sockets.specs.declared.seat.SocketSeat.{SocketSeat}

-- What each connection of it has read its own reader has given, and what it has written its own writer took.
abbrev pub IsTied : {S L C : Type 0} → (ℕ → List ℕ → Type 0) → SocketSeat S L C → Type 0
IsTied given seat = ∥ AllTied given (λ r. r) (λ w. w) seat.clients.places.items seat.clients.past.items ∥₁

-- nobody is at a place
abbrev pub IsEmptyAt : {S L C : Type 0} → SocketSeat S L C → ℕ → Type 0
IsEmptyAt seat j = (c : Client Reading Writing) → ¬ IsClientAt seat.clients.places.items j c

-- nobody is at any
abbrev pub IsNobodyLeft : {S L C : Type 0} → SocketSeat S L C → Type 0
IsNobodyLeft seat = (j : ℕ) → IsEmptyAt seat j

-- nobody came, and nothing was given and nothing taken yet
abbrev pub IsNew : {S L C : Type 0} → SocketSeat S L C → List ℕ → ℕ → Type 0
IsNew seat seed number =
    (seat.clients.number ≡ number)
    × (seat.clients.seed ≡ seed)
    × (seat.clients.past.items ≡ [])
    × (seat.clients.asked.items ≡ [])
    × (seat.clients.told.items ≡ [])
    × (seat.asked.items ≡ [])
    × IsNobodyLeft seat

-- its connections are as they were
abbrev pub Rests : {S L C : Type 0} → SocketSeat S L C → SocketSeat S L C → Type 0
Rests old new = (new.clients ≡ old.clients) × (new.asked.items ≡ old.asked.items)

-- between two events it gives and takes nothing, and nobody disconnects
abbrev pub SeatStays : {S L C : Type 0} → (ℕ → List ℕ → Type 0) → SocketSeat S L C → SocketSeat S L C → Type 0
SeatStays given old new =
    (new.clients.number ≡ old.clients.number)
    × (new.clients.seed ≡ old.clients.seed)
    × (new.clients.past.items ≡ old.clients.past.items)
    × (new.clients.asked.items ≡ old.clients.asked.items)
    × (new.clients.told.items ≡ old.clients.told.items)
    × (new.asked.items ≡ old.asked.items)
    × (IsTied given old → IsTied given new)

-- It may end: it failed, or was told to, or has had its connections.
abbrev pub MayEnd : {S L C : Type 0} → SocketSeat S L C → Type 0
MayEnd seat = (seat.has_failed ≡ true) ⊎ ((seat.was_told ≡ true) ⊎ ((seat.accepts_left ≡ 0) × (seat.count ≡ 0)))

-- it has ended: it might, and nobody is left
abbrev pub SeatIsDone : {S L C : Type 0} → SocketSeat S L C → Type 0
SeatIsDone seat = MayEnd seat × IsNobodyLeft seat

-- nobody went, and nothing changed by which it may end
abbrev pub IsStill : {S L C : Type 0} → SocketSeat S L C → SocketSeat S L C → Type 0
IsStill old new = (new.clients ≡ old.clients) × (MayEnd old → MayEnd new)

-- the application of an event is of this seat, and is there
abbrev pub SeatHasApp : {S L C : Type 0} → SocketSeat S L C → ℕ → Type 0
SeatHasApp seat app = (app % 4 ≡ seat.clients.number) × (¬ HasGone seat.clients.past.items app)

-- after a call, which has data that fits into a frame, the seat may take its reply, and after a disconnect the application is there no more
abbrev pub EventIsNoted : {S L C : Type 0} → SocketSeat S L C → SeatEvent → Type 0
EventIsNoted seat (Call c) = IsOwed seat.clients.places.items seat.called_place c.app × IsShortCall c.call
EventIsNoted seat (Gone app) = HasGone seat.clients.past.items app

-- an event is given, which the seat keeps, or nothing
abbrev pub SeatGives : {S L C : Type 0} → (ℕ → List ℕ → Type 0) → SocketSeat S L C → SocketSeat S L C → Option SeatEvent → Type 0
SeatGives given old new None = SeatStays given old new
SeatGives given old new (Some event) =
    (new.clients.number ≡ old.clients.number)
    × (new.clients.seed ≡ old.clients.seed)
    × (new.clients.told.items ≡ old.clients.told.items)
    × (new.asked.items ≡ old.asked.items ++ event ∷ [])
    × SeatHasApp old (seat_app event)
    × EventIsNoted new event
    × ((app : ℕ) → HasGone old.clients.past.items app → HasGone new.clients.past.items app)
    × (IsTied given old → IsTied given new)

-- ---- under a licence

-- that what is to be written to whoever is at a place may be, and so however nothing is given and taken meanwhile
abbrev pub MayGoOnFrom : {S L C : Type 0} → (ℕ → List ℕ → Type 0) → (ℕ → List ℕ → List ℕ → Type 0) → SocketSeat S L C → Type 0
MayGoOnFrom {S} {L} {C} given allows seat = (now : SocketSeat S L C) → SeatStays given seat now → (j : ℕ)
    → MayGoOnAt given allows (λ r. r) (λ w. w) now.clients.places.items j

-- ---- by its exchanges

-- it gave and took what it did by these
abbrev pub SeatStandsAfter : {S L C : Type 0} → (ℕ → List ℕ → Type 0) → SocketSeat S L C → List Exchange → Type 0
SeatStandsAfter given seat xs = (seat.asked.items ≡ asked_in xs) × (seat.clients.told.items ≡ heard_in xs) × IsTied given seat

-- it gave this call after these, and has no reply yet
abbrev pub WaitsFor : {S L C : Type 0} → (ℕ → List ℕ → Type 0) → SocketSeat S L C → List Exchange → AppCall → Type 0
WaitsFor given seat before c =
    (seat.asked.items ≡ asked_in before ++ Call c ∷ [])
    × (seat.clients.told.items ≡ heard_in before)
    × IsOwed seat.clients.places.items seat.called_place c.app
    × IsTied given seat
    × IsShortCall c.call

-- it takes a reply, and nothing else
abbrev pub SeatHears : {S L C : Type 0} → (ℕ → List ℕ → Type 0) → SocketSeat S L C → SocketSeat S L C → ℕ → Reply → Type 0
SeatHears given old new app reply =
    (new.clients.number ≡ old.clients.number)
    × (new.clients.seed ≡ old.clients.seed)
    × (new.asked.items ≡ old.asked.items)
    × (new.clients.told.items ≡ old.clients.told.items ++ (app, reply) ∷ [])
    × (IsTied given old → IsTied given new)

-- the four seats of a daemon, seat 0 first, with one seed
abbrev pub AreNew : {S L C : Type 0} → List ℕ → SocketSeat S L C × SocketSeat S L C × SocketSeat S L C × SocketSeat S L C → Type 0
AreNew seed seats = IsNew seats.0 seed 0 × IsNew seats.1 seed 1 × IsNew seats.2 seed 2 × IsNew seats.3 seed 3
