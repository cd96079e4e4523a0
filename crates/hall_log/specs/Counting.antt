-- How many events of each seat were served.
use Rattle.std.specs.Prelude.{◌≡◌, ℕ, zero, suc, ◌+◌, ◌<◌, nat_eq, false, length}
use Rattle.hall_log.specs.declared.serving.Counts.{Counts}
use Rattle.hall_log.specs.Lists.{of}
use Rattle.hall_log.specs.Histories.{History}

abbrev pub count_of : Counts → ℕ → ℕ
count_of c zero = c.first
count_of c (suc zero) = c.second
count_of c (suc (suc zero)) = c.third
count_of c (suc (suc (suc s))) = c.fourth

abbrev pub AreCounts : Counts → History → Type 0
AreCounts c history = (s : ℕ) → s < 4 → count_of c s ≡ length (of s history)

-- one more of seat s
pub record SeatCounted (s : ℕ) (old new : Counts) : Type 0 where
  pub own : count_of new s ≡ count_of old s + 1
  pub others : (t : ℕ) → t < 4 → nat_eq s t ≡ false → count_of new t ≡ count_of old t
