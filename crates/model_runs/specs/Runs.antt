-- One event, and a run of events, over a token. Its states are known by the world that they refine and by what a crash may
-- leave.
use Rattle.std.specs.Prelude.{◌≡◌, ◌⊎◌, ℕ, ◌+◌, ◌-◌, ◌^◌, ◌≤◌, List, [], ◌++◌, ◌∷◌, map, Option, Some, None}
use Rattle.std.specs.Option.{option_map}
use Rattle.ck_types.specs.declared.entry.Entry.{Entry}
use Rattle.ck_types.specs.declared.user_type.UserType.{UserType}
use Rattle.ck_calls.specs.declared.call.Call.{Call as CallType}
use Rattle.ck_calls.specs.declared.reply.Reply.{Reply}
use Rattle.keep.specs.Contents.{Contents, greatest_id}
use Rattle.keep.specs.Keeping.{Terms}
use Rattle.model_views.specs.declared.fault.Fault.{Fault}
use Rattle.model_views.specs.declared.fault.Fault.TheVariants.{Memory, Device}
use Rattle.mech.specs.declared.job.Job.{Job}
use Rattle.model_worlds.specs.declared.event.Event.{Event}
use Rattle.model_worlds.specs.declared.event.Event.TheVariants.{Call, Finish, Gone}
use Rattle.pin_record.specs.Records.{TokenRecord}
use Rattle.model_views.specs.Views.{Question}
use Rattle.model_views.specs.Changes.{Change, Stays}
use Rattle.model_views.specs.Answering.{Replies}
use Rattle.model_views.specs.Refusals.{resource_error}
use Rattle.model_worlds.specs.Worlds.{World, Move, Goes, Refuses, event_of, answer_at, result_at, list_change, goes, happens, reply_to, after, replies}
use Rattle.model_worlds.specs.Traces.{IsTold}
use Rattle.model_worlds.specs.Tries.{IsSoundWorld, spent_in}
use Rattle.serve_base.specs.Shown.{objects_of}
use Rattle.serve_base.specs.Stores.{LacksId}
use Rattle.model_runs.specs.Applications.{HasJobs, Shows, TokenState, answer_by, taken_by, says_by}

-- ---- crashes

-- what lasts: the token's record and the token objects, whole, with the values that are masked
pub record Lasting : Type 0 where
  pub token_record : TokenRecord
  pub objects : List (List Entry)

abbrev pub lasting_of : World → Lasting
lasting_of w = record { token_record = w.token_record; objects = w.objects }

abbrev pub lasting_in : Contents → Lasting
lasting_in c = record { token_record = c.token_record; objects = objects_of c }

-- what a crash at this moment may leave, or `None`, where what is left is no token's store
abbrev pub MayLeave : {K : Type 0} → Terms K → TokenState K → Option Lasting → Type 0
MayLeave terms t l = (left : Option Contents) × terms.may_leave t.store.keep left × (l ≡ option_map lasting_in left)

-- What a crash may leave after a change by which the world would be the next, by what it could leave before: the change alone,
-- or, where nothing changes, what it could leave before. After a refusal it is what it could leave before, or the change,
-- whole.
abbrev pub LeavesBy : (Option Lasting → Type 0) → Change → World → Option Fault → Option Lasting → Type 0
LeavesBy prior change next None l = (prior l × (change ≡ Stays)) ⊎ (l ≡ Some (lasting_of next))
LeavesBy prior change next (Some fault) l = prior l ⊎ (l ≡ Some (lasting_of next))

-- the change of what lasts that a call makes, and that a result makes
abbrev pub call_change : World → ℕ → CallType → List ℕ → Change
call_change w app call random = list_change w app (answer_at w app call random)

abbrev pub result_change : World → ℕ → Option Question → Change
result_change w app None = Stays
result_change w app (Some q) = list_change w app (result_at w app q)

-- and an event
abbrev pub change_of : World → Event → Change
change_of w (Call app call random) = call_change w app call random.items
change_of w (Finish app) = result_change w app (w.views app).question
change_of w (Gone app) = Stays

-- what a crash may leave after an event
abbrev pub LeftBy : (Option Lasting → Type 0) → World → Move → Option Lasting → Type 0
LeftBy prior w (Goes event) l = LeavesBy prior (change_of w event) (goes w event) None l
LeftBy prior w (Refuses event fault) l = LeavesBy prior (change_of w event) (goes w event) (Some fault) l

-- and after a list of events
abbrev pub LeftAfter : (Option Lasting → Type 0) → World → List Move → Option Lasting → Type 0
LeftAfter prior w [] l = prior l
LeftAfter prior w (m ∷ ms) l = LeftAfter (LeftBy prior w m) (happens w m) ms l

-- ---- results

-- What comes of a result by its job's own value. The token refines the world after it, this was returned, and a crash leaves no
-- more than its change; or it was refused.
pub record IsTakenBy (showing : World → Type 0) (prior left : Option Lasting → Type 0) (w : World) (app : ℕ) (job : Job)
    (reply : Reply) : Type 0 where
  pub shows : showing (taken_by w app job (resource_error reply))
  pub says : Replies reply ≡ says_by w app job (resource_error reply)
  pub leaves : (l : Option Lasting) → left l
      → LeavesBy prior (list_change w app (answer_by w app job)) (taken_by w app job None) (resource_error reply) l

-- ---- whom replies blame

abbrev pub blame_of : Option Fault → ℕ
blame_of None = 0
blame_of (Some Memory) = 0
blame_of (Some Device) = 1

-- how many of the replies are CKR_DEVICE_ERROR
abbrev pub blames : List Reply → ℕ
blames [] = 0
blames (reply ∷ rs) = blame_of (resource_error reply) + blames rs

-- For each there is a failure that the keeper counted since. A counter of 64 bits stays at its greatest value.
abbrev pub AccountsFor : ℕ → ℕ → List Reply → Type 0
AccountsFor before now said = (before + blames said ≤ now) ⊎ (2 ^ 64 - 1 ≤ now)

-- The device is blamed only at an event that adds an object, where every id was given.
abbrev pub BlamesForIds : World → Event → Contents → List Reply → Type 0
BlamesForIds w event c said = (blames said ≡ 0) ⊎ LacksId (change_of w event) c

-- The keeper is steady and has an id for each of so many objects to come. The token refines a world whose pending jobs these
-- are.
pub record HasIds {K : Type 0} (terms : Terms K) (t : TokenState K) (out : List (ℕ × Job)) (count : ℕ) : Type 0 where
  pub steady : terms.is_steady t.store.keep
  pub world : World
  pub jobs : HasJobs world out
  pub shows : Shows terms t world
  pub ids : shows.contents.last_id + count ≤ greatest_id

-- ---- runs

-- The token refines the world after the event, at which this was returned; the pending jobs are the world's; and a crash may
-- leave no more than that.
pub record IsStep (showing : World → Type 0) (prior left : Option Lasting → Type 0) (w : World) (event : Event)
    (said : List (ℕ × Reply)) (out : List (ℕ × Job)) : Type 0 where
  pub move : Move
  pub takes : event_of move ≡ event
  pub tells : reply_to w move ≡ said
  pub shows : showing (happens w move)
  pub jobs : HasJobs (happens w move) out
  pub leaves : (l : Option Lasting) → left l → LeftBy prior w move l

-- the first event is taken, and what it returned stands last
pub record RunAdvances (sure : Type 0) (showed shows : World → Type 0) (prior left : Option Lasting → Type 0) (events : List Event)
    (jobs : List (ℕ × Job)) (said : List (ℕ × Reply)) (rest : List Event) (out : List (ℕ × Job)) (all : List (ℕ × Reply)) : Type 0 where
  pub event : Event
  pub first : events ≡ event ∷ rest
  pub more : List (ℕ × Reply)
  pub last : all ≡ said ++ more
  pub step : sure → (w : World) → showed w → HasJobs w jobs → IsStep shows prior left w event more out

-- From w the events took place up to those left, with these replies, and the token refines the world after them.
pub record IsRun (showing : World → Type 0) (prior left : Option Lasting → Type 0) (w : World) (events : List Event)
    (said : List (ℕ × Reply)) (rest : List Event) (out : List (ℕ × Job)) : Type 0 where
  pub moves : List Move
  pub took : map event_of moves ++ rest ≡ events
  pub replied : said ≡ replies w moves
  pub shows : showing (after w moves)
  pub jobs : HasJobs (after w moves) out
  -- a crash leaves the changes that were acknowledged, and perhaps one that was tried since, whole
  pub leaves : (l : Option Lasting) → left l → LeftAfter prior w moves l
  -- each application got what its trace determines, and sees that: for its whole life, after resource errors too
  pub private : (app : ℕ) → IsTold app w moves
  -- the tries of each PIN stay the checks of it that are spent and those in progress, ten at most
  pub tries : (s : UserType → ℕ) → IsSoundWorld s w → IsSoundWorld (spent_in s w moves) (after w moves)
