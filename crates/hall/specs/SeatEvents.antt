-- What a seat's exchanges are in the seat's own words.
use Rattle.std.specs.Prelude.{◌≡◌, ℕ, ◌%◌, ◌⊎◌, List, [], ◌∷◌, ◌++◌, Option, Some, None}
use Rattle.ck_calls.specs.declared.reply.Reply.{Reply}
use Rattle.mech.specs.declared.job.Job.{Job}
use Rattle.mech.specs.declared.done.Done.{Done}
use Rattle.serve_base.specs.declared.out.Out.{Out}
use Rattle.serve_base.specs.declared.out.Out.TheVariants.{Reply as OutReply, Ask}
use Rattle.ck_calls.specs.declared.app_call.AppCall.{AppCall}
use Rattle.hall_log.specs.declared.event.Event.{Event}
use Rattle.hall_log.specs.declared.event.Event.TheVariants.{Call, Finish, Gone}
use Rattle.hall_log.specs.Histories.{Exchange, event_app}
use Rattle.hall_log.specs.Putting.{IsThere, WasRead}
use Rattle.hall.specs.declared.seats.SeatEvent.{SeatEvent}
use Rattle.hall.specs.declared.seats.SeatEvent.TheVariants.{Call as SeatCall, Gone as SeatGone}

-- the application that an event of a seat is of
abbrev pub seat_app : SeatEvent → ℕ
seat_app (SeatCall c) = c.app
seat_app (SeatGone app) = app

-- the event as it is put before the token
abbrev pub as_put : SeatEvent → Event
as_put (SeatCall c) = Call c
as_put (SeatGone app) = Gone app

-- What seat s may put of itself after these exchanges of its own: an event of an application of that seat, which has not disconnected.
-- A call was read.
pub record MayAsk (was_read : List Exchange → AppCall → Type 0) (s : ℕ) (before : List Exchange) (event : SeatEvent) : Type 0 where
  pub own : seat_app event % 4 ≡ s
  pub there : IsThere (seat_app event) before
  pub read : WasRead was_read before (as_put event)

-- After a call the seat waits for its reply, and after a disconnect it stands as after that.
abbrev pub StandsThen : (List Exchange → Type 0) → (List Exchange → AppCall → Type 0) → List Exchange → SeatEvent → Type 0
StandsThen stands waits before (SeatCall c) = waits before c
StandsThen stands waits before (SeatGone app) = stands (before ++ (Gone app, None) ∷ [])

-- what a seat put, among its events
abbrev pub seat_events_of : Event → List SeatEvent
seat_events_of (Call c) = SeatCall c ∷ []
seat_events_of (Finish app done) = []
seat_events_of (Gone app) = SeatGone app ∷ []

abbrev pub asked_in : List Exchange → List SeatEvent
asked_in [] = []
asked_in (x ∷ xs) = seat_events_of x.0 ++ asked_in xs

-- the replies that it got, each with its application
abbrev pub heard_out : ℕ → Out → List (ℕ × Reply)
heard_out app (OutReply reply) = (app, reply) ∷ []
heard_out app (Ask job) = []

abbrev pub heard_by : ℕ → Option Out → List (ℕ × Reply)
heard_by app None = []
heard_by app (Some out) = heard_out app out

abbrev pub heard_in : List Exchange → List (ℕ × Reply)
heard_in [] = []
heard_in (x ∷ xs) = heard_by (event_app x.0) x.1 ++ heard_in xs

-- the exchanges of one turn: a reply at once, or a job and then the reply to its result
abbrev pub IsTurn : SeatEvent → List Exchange → Type 0
IsTurn (SeatCall c) more =
    ((r : Reply) × (more ≡ (Call c, Some (OutReply r)) ∷ []))
    ⊎ ((j : Job) × (d : Done) × (r : Reply) × (d.job.value ≡ j)
    × (more ≡ (Call c, Some (Ask j)) ∷ (Finish c.app d, Some (OutReply r)) ∷ []))
IsTurn (SeatGone app) more = more ≡ (Gone app, None) ∷ []

-- The reply to the call that a seat waits for: its last exchanges are that call's turn, in which it heard this reply of it.
pub record IsAwaitedReply (waits : List Exchange → AppCall → Type 0) (now : List Exchange) (app : ℕ) (reply : Reply) : Type 0 where
  pub before : List Exchange
  pub call : AppCall
  pub more : List Exchange
  pub waits_for : waits before call
  pub now_is : now ≡ before ++ more
  pub turn : IsTurn (SeatCall call) more
  pub heard : heard_in more ≡ (app, reply) ∷ []
