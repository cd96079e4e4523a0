-- What has been given at each moment, while seats are held: a beginning of a history. It speaks of no end, so it holds as well
-- where the end never comes.
use Rattle.std.specs.Prelude.{◌≡◌, ℕ, List, Option}
use Rattle.model_worlds.specs.Worlds.{World}
use Rattle.serve_base.specs.declared.out.Out.{Out}
use Rattle.ck_calls.specs.declared.app_call.AppCall.{AppCall}
use Rattle.hall_log.specs.declared.event.Event.{Event}
use Rattle.hall_log.specs.Histories.{AllMay, Exchange, History, event_app}
use Rattle.hall_log.specs.Putting.{MayPut}
use Rattle.hall.specs.Terms.{MachineTerms}
use Rattle.hall.specs.Histories.{AllProper, Allowed, Counts, HasServed, Spends, EventTakesPlace, replies_in, told_by}

-- Some history leads from the machine as it was to the machine as it is, and each seat kept to its order in it.
pub record IsLed {T : Type 0} (terms : MachineTerms T) (began now : T) : Type 0 where
  pub history : History
  pub proper : AllProper history
  pub served : HasServed terms began now history

-- What the machine did by an event, which it answered so.
pub record Did {T : Type 0} (terms : MachineTerms T) (old new : T) (event : Event) (answer : Option Out) : Type 0 where
  pub counts : Counts (terms.doubt old) (terms.doubt new) (terms.failures old) (terms.failures new)
      (replies_in (told_by (event_app event) answer))
  pub takes : terms.doubt new ≡ 0 → (w : World) → terms.shows old w → Allowed w event
      → EventTakesPlace (terms.shows new) (terms.leaves old) (terms.leaves new) w event answer
  pub spends : (w : World) → Allowed w event → Spends (terms.spare old) (terms.spare new) w event answer

-- The machine has served this history, in which each seat put what it might.
abbrev pub IsSoFar : {T : Type 0} → MachineTerms T → (List Exchange → AppCall → Type 0) → T → T → History → Type 0
IsSoFar terms was_read began now history = HasServed terms began now history
    × AllMay (MayPut was_read) history

-- The machine has served this history since it was handed over, and each seat put what it might.
abbrev pub Serves : {T : Type 0} → MachineTerms T → (List Exchange → AppCall → Type 0) → T → History → Type 0
Serves {T} terms was_read began history = (now : T) × IsSoFar terms was_read began now history
