-- The calls among exchanges, with their random bytes.
use Rattle.std.specs.Prelude.{ℕ, List, [], ◌∷◌, ◌++◌}
use Rattle.hall_log.specs.declared.event.Event.{Event}
use Rattle.hall_log.specs.declared.event.Event.TheVariants.{Call, Finish, Gone}
use Rattle.hall_log.specs.Histories.{Exchange, History}
use Rattle.line.specs.Turns.{Ask}
use Rattle.line_places.specs.Standing.{ask_in}

-- each with its application
abbrev pub called : Event → List (ℕ × Ask)
called (Call c) = (c.app, ask_in c) ∷ []
called (Finish app done) = []
called (Gone app) = []

-- among exchanges of one seat
abbrev pub called_by : List Exchange → List (ℕ × Ask)
called_by [] = []
called_by (x ∷ xs) = called x.0 ++ called_by xs

-- in a history of all seats
abbrev pub called_in : History → List (ℕ × Ask)
called_in [] = []
called_in (x ∷ xs) = called x.1.0 ++ called_in xs
