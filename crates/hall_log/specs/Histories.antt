-- Histories: exchanges of all seats in one order.
use Rattle.std.specs.Prelude.{◌≡◌, ℕ, ◌%◌, List, [], ◌∷◌, ◌++◌, Option}
use Rattle.std.specs.List.{AllByRecursion}
use Rattle.serve_base.specs.declared.out.Out.{Out}
use Rattle.hall_log.specs.Lists.{of}
use Rattle.hall_log.specs.declared.event.Event.{Event}
use Rattle.hall_log.specs.declared.event.Event.TheVariants.{Call, Finish, Gone}

-- an event and its answer, if it has one
abbrev pub Exchange : Type 0
Exchange = Event × Option Out

-- each with its seat
abbrev pub History : Type 0
History = List (ℕ × Exchange)

abbrev pub event_app : Event → ℕ
event_app (Call c) = c.app
event_app (Finish app done) = app
event_app (Gone app) = app

abbrev pub events : List Exchange → List Event
events [] = []
events (x ∷ xs) = x.0 ∷ events xs

-- what each was answered
abbrev pub answered : List Exchange → List (Option Out)
answered [] = []
answered (x ∷ xs) = x.1 ∷ answered xs

-- each event is of an application of its own seat
abbrev pub AllOwn : History → Type 0
AllOwn history = AllByRecursion (λ x. event_app x.1.0 % 4 ≡ x.0) history

-- each event was one that its seat may put, after what was served of it before
abbrev pub AllMayFrom : (ℕ → List Exchange → Event → Type 0) → History → History → Type 0
AllMayFrom may past [] = Unit {0}
AllMayFrom may past (x ∷ xs) = ∥ may x.0 (of x.0 past) x.1.0 ∥₁ × AllMayFrom may (past ++ x ∷ []) xs

abbrev pub AllMay : (ℕ → List Exchange → Event → Type 0) → History → Type 0
AllMay may history = AllMayFrom may [] history
