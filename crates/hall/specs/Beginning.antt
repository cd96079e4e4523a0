-- How a seat begins, and how it ends.
use Rattle.std.specs.Prelude.{◌≡◌, ℕ, List, [], None}
use Rattle.hall_log.specs.Histories.{Exchange}
use Rattle.hall_log.specs.Lists.{last}
use Rattle.hall_log.specs.Putting.{pending}
use Rattle.hall_log.specs.SeatLogs.{SeatLog, done_by, IsIdle}

-- A seat may begin with this end of the log, which is of its number: nothing was put, and the seat stands so.
abbrev pub SeatBeginsWith : {S : Type 0} → (S → ℕ) → (S → List ℕ) → (List ℕ → Type 0) → (S → List Exchange → Type 0) → SeatLog → S → Type 0
SeatBeginsWith number fixed knows stands log seat = (number seat ≡ log.seat) × knows (fixed seat) × IsIdle log × (done_by log ≡ [])
    × stands seat []

-- It has no job left, and stands as after these exchanges of its own.
abbrev pub EndsAfter : (List Exchange → Type 0) → List Exchange → Type 0
EndsAfter stands xs = (pending (last xs) ≡ None) × stands xs

-- the ends of the log of four seats, of which nothing was put or served
pub record AreFirst (first second third fourth : SeatLog) : Type 0 where
  pub seat0 : first ≡ record { seat = 0; mine = []; told = [] }
  pub seat1 : second ≡ record { seat = 1; mine = []; told = [] }
  pub seat2 : third ≡ record { seat = 2; mine = []; told = [] }
  pub seat3 : fourth ≡ record { seat = 3; mine = []; told = [] }
