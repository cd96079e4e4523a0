-- What a seat's end knows.
use Rattle.std.specs.Prelude.{◌≡◌, ℕ, List, [], ◌∷◌, ◌++◌}
use Rattle.hall_log.specs.declared.event.Event.{Event}
use Rattle.hall_log.specs.declared.entry.Entry.{Entry}
use Rattle.hall_log.specs.Lists.{of}
use Rattle.hall_log.specs.Histories.{Exchange, events}
use Rattle.hall_log.specs.Log.{puts, served}

-- The seat's number, a beginning of the log with all that the seat has put, and one whose history the machine has served.
pub record SeatLog : Type 0 where
  pub seat : ℕ
  pub mine : List Entry
  pub told : List Entry

-- the exchanges of the seat, in the history that it was told
abbrev pub done_by : SeatLog → List Exchange
done_by p = of p.seat (served p.told)

-- all that the seat has put was answered
abbrev pub IsIdle : SeatLog → Type 0
IsIdle p = puts p.seat p.mine ≡ events (done_by p)

-- all but this event, its last
abbrev pub Awaits : SeatLog → Event → Type 0
Awaits p c = puts p.seat p.mine ≡ events (done_by p) ++ c ∷ []
