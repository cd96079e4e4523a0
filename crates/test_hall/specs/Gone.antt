-- Which applications have gone.
use Rattle.std.specs.Prelude.{◌≡◌, ℕ, Bool, List, [], ◌∷◌, nat_eq, IsTrue, Some}
use Rattle.std.specs.List.{list_any}
use Rattle.hall_log.specs.Histories.{Exchange}
use Rattle.hall_log.specs.Putting.{gone_by}
use Rattle.hall.specs.declared.seats.SeatEvent.{SeatEvent}
use Rattle.hall.specs.declared.seats.SeatEvent.TheVariants.{Call, Gone}

abbrev pub is_gone : List ℕ → ℕ → Bool
is_gone gone app = list_any (λ other. nat_eq other app) gone

-- an application that disconnects by it has gone
abbrev pub NotesGone : List ℕ → SeatEvent → Type 0
NotesGone gone (Call c) = Unit {0}
NotesGone gone (Gone app) = IsTrue (is_gone gone app)

-- whoever disconnected by these has gone
abbrev pub AllGone : List ℕ → List Exchange → Type 0
AllGone gone [] = Unit {0}
AllGone gone (x ∷ xs) = ((app : ℕ) → gone_by x.0 ≡ Some app → IsTrue (is_gone gone app)) × AllGone gone xs
