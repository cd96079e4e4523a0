-- Histories: events of all seats in one order, each with its seat and what it was answered; and what the token's model says
-- of them.
use Rattle.std.specs.Prelude.{◌≡◌, ◌==◌, if◌then◌else◌, ℕ, ◌+◌, ◌%◌, ◌≤◌, List, [], ◌∷◌, ◌++◌, map, Option, Some, None}
use Rattle.ck_calls.specs.declared.reply.Reply.{Reply as ReplyType}
use Rattle.mech.specs.declared.job.Job.{Job}
use Rattle.model_views.specs.Refusals.{resource_error_in}
use Rattle.model_worlds.specs.declared.event.Event.{Event as ModelEvent}
use Rattle.model_worlds.specs.declared.event.Event.TheVariants.{Call as ModelCall, Finish as ModelFinish, Gone as ModelGone}
use Rattle.model_worlds.specs.Worlds.{World, Move, Goes, says_called, reply_to, happens, after}
use Rattle.serve_base.specs.declared.out.Out.{Out}
use Rattle.serve_base.specs.declared.out.Out.TheVariants.{Reply, Ask}
use Rattle.serve_base.specs.Shown.{IsFor, said_of}
use Rattle.token.specs.States.{HasJobs, IsOpen, jobs_of, moved, AccountsFor, IsRun, Lasting, LeftAfter, LeftBy, blames}
use Rattle.hall_log.specs.Lists.{of, last}
use Rattle.hall_log.specs.declared.event.Event.{Event}
use Rattle.hall_log.specs.declared.event.Event.TheVariants.{Call, Finish, Gone}
use Rattle.hall_log.specs.Histories.{Exchange, History, event_app}
use Rattle.hall_log.specs.Putting.{IsProper, pending}
use Rattle.hall_log.specs.Suiting.{HistorySuits}
use Rattle.hall.specs.Terms.{MachineTerms}

abbrev pub AllProper : History → Type 0
AllProper xs = (s : ℕ) → IsProper s (of s xs)

-- ---- in the words of the token's model

-- the event, of which a result is that of the application's job
abbrev pub as_event : Event → ModelEvent
as_event (Call c) = ModelCall c.app c.call c.random
as_event (Finish app done) = ModelFinish app
as_event (Gone app) = ModelGone app

abbrev pub model_events : History → List ModelEvent
model_events xs = map (λ x. as_event x.1.0) xs

-- how it took place: as the model says, or refused by a resource error, which is read off the answer
abbrev pub moved_by : ModelEvent → Option Out → Move
moved_by event None = Goes event
moved_by event (Some out) = moved event (resource_error_in (said_of out))

abbrev pub move_in : Exchange → Move
move_in x = moved_by (as_event x.0) x.1

abbrev pub moves_in : History → List Move
moves_in xs = map (λ x. move_in x.1) xs

-- the replies, each with its application
abbrev pub told_out : ℕ → Out → List (ℕ × ReplyType)
told_out app (Reply reply) = (app, reply) ∷ []
told_out app (Ask job) = []

abbrev pub told_by : ℕ → Option Out → List (ℕ × ReplyType)
told_by app None = []
told_by app (Some out) = told_out app out

abbrev pub told_in : History → List (ℕ × ReplyType)
told_in [] = []
told_in (x ∷ xs) = told_by (event_app x.1.0) x.1.1 ++ told_in xs

-- What is answered to an event is what the model says there; a job is the application's, and a result is of the job of
-- its pending call.
abbrev pub TellsResult : World → ℕ → Job → Out → Type 0
TellsResult w app job (Reply reply) = IsOpen w app job
    × (reply_to w (moved (ModelFinish app) (resource_error_in (said_of (Reply reply)))) ≡ (app, reply) ∷ [])
TellsResult w app job (Ask other) = ⊥

abbrev pub TellsEvent : World → Event → Option Out → Type 0
TellsEvent w (Call c) (Some out) = (said_of out ≡ says_called w c.app c.call c.random.items (resource_error_in (said_of out)))
    × IsFor c.app out
TellsEvent w (Finish app done) (Some out) = TellsResult w app done.job.value out
TellsEvent w (Gone app) None = Unit {0}
TellsEvent w (Call c) None = ⊥
TellsEvent w (Finish app done) None = ⊥
TellsEvent w (Gone app) (Some out) = ⊥

-- and so for each event, in the world that those before it made
abbrev pub Unfolds : World → History → Type 0
Unfolds w [] = Unit {0}
Unfolds w (x ∷ xs) = TellsEvent w x.1.0 x.1.1 × Unfolds (happens w (move_in x.1)) xs

-- An event took place in the world: what is answered to it is what the model says; what refined the world refines the next; and
-- a crash leaves no more than the event's change.
pub record EventTakesPlace (showing : World → Type 0) (prior left : Option Lasting → Type 0) (w : World) (event : Event)
    (answer : Option Out) : Type 0 where
  pub tells : TellsEvent w event answer
  pub shows : showing (happens w (moved_by (as_event event) answer))
  pub leaves : (l : Option Lasting) → left l → LeftBy prior w (moved_by (as_event event) answer) l

-- what an event needs: a result, that it is of the job of the pending call
abbrev pub Allowed : World → Event → Type 0
Allowed w (Call c) = Unit {0}
Allowed w (Finish app done) = IsOpen w app done.job.value
Allowed w (Gone app) = Unit {0}

-- no fault of the disk and no failure is forgotten, and for each CKR_DEVICE_ERROR a failure was counted
pub record Counts (doubt_old doubt_new failures_old failures_new : ℕ) (said : List ReplyType) : Type 0 where
  pub doubt : doubt_old ≤ doubt_new
  pub failures : failures_old ≤ failures_new
  pub accounts : AccountsFor failures_old failures_new said

abbrev pub replies_in : List (ℕ × ReplyType) → List ReplyType
replies_in told = map (λ r. r.1) told

-- ---- ids for objects to come

-- how many ids an event may take: a call one at most, and a result one
abbrev pub ids_by : Event → ℕ
ids_by (Call c) = 1
ids_by (Finish app done) = 1
ids_by (Gone app) = 0

-- and a history
abbrev pub ids_in : History → ℕ
ids_in [] = 0
ids_in (x ∷ xs) = ids_by x.1.0 + ids_in xs

-- What had the ids that the event may take and so many more blames the device in no reply, and has so many after it.
abbrev pub Spends : (World → ℕ → Type 0) → (World → ℕ → Type 0) → World → Event → Option Out → Type 0
Spends had has w event answer = (count : ℕ) → had w (count + ids_by event)
    → (blames (replies_in (told_by (event_app event) answer)) ≡ 0) × has (happens w (moved_by (as_event event) answer)) count

-- A machine that had an id for each call and each result of the history answered none by CKR_DEVICE_ERROR, where no call was
-- pending before. It has as many left as it had beyond these.
abbrev pub SpendsOver : {T : Type 0} → MachineTerms T → T → T → History → Type 0
SpendsOver terms old new history = (w : World) (count : ℕ) → terms.spare old w (count + ids_in history) → HasJobs w []
    → (blames (replies_in (told_in history)) ≡ 0) × terms.spare new (after w (moves_in history)) count

-- ---- the jobs that seats have

abbrev pub own_job : ℕ → Option (ℕ × Job) → List Job
own_job app None = []
own_job app (Some j) = if app == j.0 then j.1 ∷ [] else []

abbrev pub waiting : ℕ → Option Exchange → List Job
waiting app x = own_job app (pending x)

-- A history unfolded from the world so far: each event was answered as the model says at its place. A crash leaves no more than
-- the changes that were acknowledged and perhaps one tried since, and the pending jobs are those that seats have.
pub record RunSoFar (showing : World → Type 0) (prior left : Option Lasting → Type 0) (w : World) (history : History) : Type 0 where
  pub unfolds : Unfolds w history
  pub shows : showing (after w (moves_in history))
  pub leaves : (l : Option Lasting) → left l → LeftAfter prior w (moves_in history) l
  pub out : List (ℕ × Job)
  pub jobs : HasJobs (after w (moves_in history)) out
  pub waits : (app : ℕ) → jobs_of app out ≡ waiting app (last (of (app % 4) history))

-- What became of a machine by a history: where no call was pending and the seats did as they should, it unfolded. While there was
-- an id for each object to come, no answer was CKR_DEVICE_ERROR.
pub record HasServed {T : Type 0} (terms : MachineTerms T) (old new : T) (history : History) : Type 0 where
  pub suited : HistorySuits history
  pub counts : Counts (terms.doubt old) (terms.doubt new) (terms.failures old) (terms.failures new) (replies_in (told_in history))
  pub runs : terms.doubt new ≡ 0 → (w : World) → terms.shows old w → HasJobs w [] → AllProper history
      → RunSoFar (terms.shows new) (terms.leaves old) (terms.leaves new) w history
  pub spends : AllProper history → SpendsOver terms old new history

-- A whole history from the world: each event was answered as the model says at its place, and all is a run of the token's
-- (`IsRun`). After it no call is pending. So each application got what its own trace determines.
pub record IsHistory (showing : World → Type 0) (prior left : Option Lasting → Type 0) (w : World) (history : History) : Type 0 where
  pub unfolds : Unfolds w history
  pub run : IsRun showing prior left w (model_events history) (told_in history) [] []
  pub moves : run.moves ≡ moves_in history
