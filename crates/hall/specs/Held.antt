-- What is known when all seats have ended.
use Rattle.std.specs.Prelude.{◌≡◌, ℕ, ◌≤◌, List, [], Option, None}
use Rattle.model_worlds.specs.Worlds.{World}
use Rattle.token.specs.States.{HasJobs, Lasting}
use Rattle.hall_log.specs.Lists.{of, last}
use Rattle.hall_log.specs.Histories.{Exchange, History}
use Rattle.hall_log.specs.Putting.{pending}
use Rattle.hall.specs.Terms.{MachineTerms}
use Rattle.hall.specs.Histories.{AllProper, Counts, IsHistory, SpendsOver, replies_in, told_in}

-- The history is an interleaving of what four seats put: each kept to its order, and has no job left.
pub record Interleaves (history : History) : Type 0 where
  pub only : (s : ℕ) → 4 ≤ s → of s history ≡ []
  pub proper : AllProper history
  pub settled : (s : ℕ) → pending (last (of s history)) ≡ None

-- What four seats put was one history, which the machine took, and which the log has (`served`): each seat stands as after its own
-- exchanges there. The machine is given as it was and as it is now. Where its store is faithful and no call was pending, the history
-- is a run from the world that it refined. While it had an id for each object to come, no answer was CKR_DEVICE_ERROR.
pub record WereHeld {S T : Type 0} (stands : S → List Exchange → Type 0) (served : History → Type 0) (terms : MachineTerms T)
    (seats : S × S × S × S) (before after : T) : Type 0 where
  pub history : History
  pub told : served history
  pub interleaves : Interleaves history
  pub part0 : stands seats.0 (of 0 history)
  pub part1 : stands seats.1 (of 1 history)
  pub part2 : stands seats.2 (of 2 history)
  pub part3 : stands seats.3 (of 3 history)
  pub counts : Counts (terms.doubt before) (terms.doubt after) (terms.failures before) (terms.failures after) (replies_in (told_in history))
  pub runs : terms.doubt after ≡ 0 → (w : World) → terms.shows before w → HasJobs w []
      → IsHistory (terms.shows after) (terms.leaves before) (terms.leaves after) w history
  pub spends : SpendsOver terms before after history
