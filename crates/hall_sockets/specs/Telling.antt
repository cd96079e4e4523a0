-- What a seat gave and took.
use Rattle.std.specs.Prelude.{ℕ, List, [], ◌∷◌, map}
use Rattle.ck_calls.specs.declared.app_call.AppCall.{AppCall}
use Rattle.hall.specs.declared.seats.SeatEvent.{SeatEvent}
use Rattle.hall.specs.declared.seats.SeatEvent.TheVariants.{Call, Gone}
use Rattle.line_places.specs.declared.client.Client.{Client}

-- the calls among a seat's events
abbrev pub calls_in : List SeatEvent → List AppCall
calls_in [] = []
calls_in (Call c ∷ es) = c ∷ calls_in es
calls_in (Gone app ∷ es) = calls_in es

-- the applications that disconnected by them
abbrev pub gone_in : List SeatEvent → List ℕ
gone_in [] = []
gone_in (Call c ∷ es) = gone_in es
gone_in (Gone app ∷ es) = app ∷ gone_in es

abbrev pub apps_of : {R W : Type 0} → List (Client R W) → List ℕ
apps_of clients = map (λ c. c.app) clients
