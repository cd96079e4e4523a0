-- What a token is to all applications: the desk of each, and the world that the token refines by them.
use Rattle.std.specs.Prelude.{◌≡◌, ◌≢◌, ◌⊎◌, ℕ, ◌+◌, ◌≤◌, ◌==◌, ◌&&◌, Bool, true, false, not, nat_lt, length, List, [], ◌∷◌, ◌++◌, map, filter, unwrap_or, option_to_list, Option, Some, None, Result, Ok, Err, IfOk, IfErr, IsErrOf}
use Rattle.std.specs.Ordering.{nat_cmp}
use Rattle.std.specs.BTreeMap.{is_at}
use Rattle.std.specs.Map.{lookup, keys_of}
use Rattle.std.specs.List.{list_any}
use Rattle.std.specs.Option.{option_map}
use Rattle.ck_types.specs.declared.user_type.UserType.{UserType}
use Rattle.keep.specs.Contents.{Contents}
use Rattle.keep.specs.Keeping.{Counted, Rises, Terms}
use Rattle.model_views.specs.declared.fault.Fault.{Fault}
use Rattle.model_views.specs.declared.fault.Fault.TheVariants.{Device}
use Rattle.mech.specs.declared.job.Job.{Job}
use Rattle.desk.specs.Desks.{DeskState, SameDesk, empty_desk, over}
use Rattle.ck_calls.specs.declared.call.Call.{Call}
use Rattle.ck_calls.specs.declared.reply.Reply.{Reply}
use Rattle.ck_calls.specs.Functions.{function_number}
use Rattle.model_worlds.specs.declared.event.Event.{Event}
use Rattle.serve_base.specs.declared.out.Out.{Out}
use Rattle.serve_base.specs.declared.out.Out.TheVariants.{Reply as OutReply}
use Rattle.model_worlds.specs.declared.check.Check.{Check}
use Rattle.model_views.specs.Views.{Question, View, fresh}
use Rattle.model_views.specs.Answering.{Said, Replies, Answer, Reveal, answered, has_session, pin_checked_in}
use Rattle.model_answers.specs.Answers.{answer_result}
use Rattle.model_answers.specs.Standing.{StandsAfter, ended_with}
use Rattle.model_views.specs.Refusals.{is_refusal, refusal, resource_error_in, resource_error}
use Rattle.model_worlds.specs.Worlds.{World, is_in_session, checks_of, Move, Goes, Refuses, value_of, reveal_by_outcome, reveal_to_task, stepped, unchecked, finish_refused}
use Rattle.serve_base.specs.Refusing.{GivesAnyway}
use Rattle.serve_base.specs.Short.{IsShort, IsShortTask}
use Rattle.serve_base.specs.Shown.{objects_of, task_of, view_of, Fits, ShowsSame, said_of, question_of}
use Rattle.serve_base.specs.Stores.{StoreState, StoreHas, FailsForIds, ServesAnswer}

-- ---- all desks

pub record State : Type 0 where
  pub kept : Contents
  pub desks : List (ℕ × DeskState)
  pub checks : List Check

abbrev pub desk_at : List (ℕ × DeskState) → ℕ → DeskState
desk_at ds app = unwrap_or (lookup (is_at (nat_cmp app)) ds) empty_desk

abbrev pub view_at : State → ℕ → View
view_at t app = view_of t.kept (desk_at t.desks app)

-- an application has a session, and another one has
abbrev pub has_session_at : List (ℕ × DeskState) → ℕ → Bool
has_session_at ds app = nat_lt 0 (length (desk_at ds app).sessions.sessions)

abbrev pub are_others_in_session : List (ℕ × DeskState) → ℕ → Bool
are_others_in_session ds app = list_any (λ b. not (b == app) && has_session_at ds b) (keys_of ds)

-- the state is the world's
pub record Depicts (t : State) (w : World) : Type 0 where
  pub token_record : w.token_record ≡ t.kept.token_record
  pub objects : w.objects ≡ objects_of t.kept
  pub checks : w.checks ≡ t.checks
  pub in_session : (app : ℕ) → is_in_session w app ≡ has_session (view_at t app)
  pub views : (app : ℕ) → w.views app ≡ view_at t app

-- the world of a keeper before any event
abbrev pub opening : Contents → World
opening c =
    record {
      token_record = c.token_record;
      objects = objects_of c;
      checks = [];
      in_session = [];
      views = λ app. fresh c.token_record (objects_of c);
    }

abbrev pub AllFit : Contents → List (ℕ × DeskState) → Type 0
AllFit c ds = (app : ℕ) → Fits c (desk_at ds app).handles.entries

-- ---- a result at its desk

-- A result is answered by the task of its own job; the pending call may have another.
abbrev pub by_job : Job → Question → Question
by_job job q = record q { task = (question_of job).task }

abbrev pub asked_by_job : Job → View → View
asked_by_job job v = record v { question = option_map (by_job job) v.question }

abbrev pub answer_to_job : Job → View → Reveal → Answer
answer_to_job job v reveal = answer_result (asked_by_job job v) (value_of (question_of job).task) reveal

-- what it reveals, by what is kept, by the checks in progress, and by whether another application has a session
abbrev pub reveal_by_job : Job → (UserType → ℕ) → Bool → Contents → Reveal
reveal_by_job job under_way others_have_sessions c =
    reveal_by_outcome (question_of job).task (value_of (question_of job).task) (objects_of c) under_way others_have_sessions

-- The answer to the result of the job is given, or it is refused, and the desk has no pending call. At most one write is tried,
-- and CKR_DEVICE_ERROR comes only where a failure of the keeper was counted. Over a steady keeper it comes only to an answer
-- that adds an object, where the ids are used up. A refusal leaves what the desk shows without the pending call, or what the
-- answer says, store faithful or not. What is returned of a short task is short.
pub record Finishes {K : Type 0} (terms : Terms K) (job : Job) (reveal : Contents → Reveal) (old new : StoreState K)
    (before : DeskState) (result : Result Reply Fault) (desk : DeskState) : Type 0 where
  pub serves : terms.doubt new.keep ≡ 0 → (c : Contents) → StoreHas terms old c → Fits c before.handles.entries
      → ServesAnswer terms Replies (answer_to_job job (view_of c before) (reveal c)) c old new before (over before) result desk
  pub counts : Counted terms old.keep new.keep 0 1
  pub cause : IsErrOf result Device → Rises (terms.failures old.keep) (terms.failures new.keep)
  pub steady : FailsForIds terms Device (λ c v. answer_to_job job v (reveal c)) old before result
  pub plain : IfOk result (λ reply. resource_error reply ≡ None)
  pub stays : IfErr result (λ fault. SameDesk (over before) desk)
  pub refused : IfOk result (λ reply. is_refusal reply ≡ true → ShowsSame (over before) desk
      ⊎ GivesAnyway (λ c v. answer_to_job job v (reveal c)) before (Replies reply) desk)
  pub short : IsShortTask (task_of job.work.value) → IfOk result (λ reply. IsShort reply)

-- what an application sees of its desk after a refused call, whatever is kept
abbrev pub StandsAtDesk : Call → DeskState → DeskState → Type 0
StandsAtDesk call old new = (c : Contents) → Fits c old.handles.entries → StandsAfter call (view_of c old) (view_of c new)

-- a view, and what a refused result may leave of it
abbrev pub StandsOver : Job → View → View → Type 0
StandsOver job v new = (new ≡ answered v)
    ⊎ ((q : Question) × (v.question ≡ Some q) × (new ≡ ended_with q.session (question_of job).task (answered v)))

-- and of a desk, whatever is kept
abbrev pub StandsOverDesk : Job → DeskState → DeskState → Type 0
StandsOverDesk job old new = (c : Contents) → Fits c old.handles.entries → StandsOver job (view_of c old) (view_of c new)

-- the answer to the job's own value, and the world after it; or what a refusal leaves
abbrev pub answer_by : World → ℕ → Job → Answer
answer_by w app job = answer_to_job job (w.views app) (reveal_to_task w app (question_of job).task)

abbrev pub taken_by : World → ℕ → Job → Option Fault → World
taken_by w app job None = unchecked (stepped w app (answer_by w app job)) app
taken_by w app job (Some fault) = finish_refused w app (w.views app).question

abbrev pub says_by : World → ℕ → Job → Option Fault → Said
says_by w app job None = (answer_by w app job).says
says_by w app job (Some fault) = Replies (refusal fault)

-- ---- how an event took place

abbrev pub moved : Event → Option Fault → Move
moved event None = Goes event
moved event (Some fault) = Refuses event fault

-- what an application gets: a refusal in place of an answer
abbrev pub or_fault_code : {A : Type 0} → (Reply → A) → Result A Fault → A
or_fault_code of_reply (Ok value) = value
or_fault_code of_reply (Err fault) = of_reply (refusal fault)

-- of a call
abbrev pub told_as : Result Out Fault → Out
told_as result = or_fault_code OutReply result

-- and of the result of a job
abbrev pub told_result : Result Reply Fault → Reply
told_result result = or_fault_code (λ reply. reply) result

-- which of both it was follows from what is returned, since the codes of a resource error have no other cause
abbrev pub move_of : Event → Out → Move
move_of event out = moved event (resource_error_in (said_of out))

-- the checks in progress after a call
abbrev pub checks_after : ℕ → Result Out Fault → List Check → List Check
checks_after app (Ok out) cs = cs ++ checks_of app (pin_checked_in (said_of out))
checks_after app (Err fault) cs = cs

-- ---- jobs

-- the job is of the application's pending call
pub record IsOpen (w : World) (app : ℕ) (job : Job) : Type 0 where
  pub asker : job.app ≡ app
  pub question : (w.views app).question ≡ Some (question_of job)

-- the job is none of the pending call: no call is pending, or it has another application, job number or function number
abbrev pub IsOther : Option Question → ℕ → Job → Type 0
IsOther None app job = Unit {0}
IsOther (Some q) app job = (job.app ≢ app) ⊎ (job.question ≢ q.number) ⊎ (function_number job.function ≢ function_number q.function)

-- it has these numbers of the pending call; they don't determine whose work it was
abbrev pub HasNumbers : Option Question → ℕ → Job → Type 0
HasNumbers None app job = ⊥
HasNumbers (Some q) app job = (job.app ≡ app) × (job.question ≡ q.number) × (function_number job.function ≡ function_number q.function)

-- and the test of it, of a desk's pending call
abbrev pub is_answer : Option Job → ℕ → Job → Bool
is_answer None app job = false
is_answer (Some j) app job = job.app == app && (job.question == j.question && function_number job.function == function_number j.function)

-- the jobs of an application
abbrev pub jobs_of : ℕ → List (ℕ × Job) → List Job
jobs_of app out = map (λ j. j.1) (filter (λ j. app == j.0) out)

abbrev pub asked_by : Job → ℕ × Question
asked_by j = (j.app, question_of j)

-- the jobs of the pending calls, each once, and nothing else
abbrev pub HasJobs : World → List (ℕ × Job) → Type 0
HasJobs w out = (app : ℕ) → map asked_by (jobs_of app out) ≡ map (λ q. (app, q)) (option_to_list (w.views app).question)

-- the application's job is taken out of the list, if there is one
abbrev pub TakesJob : ℕ → List (ℕ × Job) → Option Job → List (ℕ × Job) → Type 0
TakesJob app old None new = (jobs_of app old ≡ []) × (new ≡ old)
TakesJob app old (Some job) new = (jobs_of app old ≡ job ∷ jobs_of app new) × ((b : ℕ) → b ≢ app → jobs_of b new ≡ jobs_of b old)

-- ---- tokens

pub record TokenState (K : Type 0) : Type 0 where
  pub store : StoreState K
  pub desks : List (ℕ × DeskState)
  pub checks : List Check

-- the token refines the world: its keeper holds contents that do, with the desks
pub record Shows {K : Type 0} (terms : Terms K) (t : TokenState K) (w : World) : Type 0 where
  pub contents : Contents
  pub has : StoreHas terms t.store contents
  pub fits : AllFit contents t.desks
  pub depicts : Depicts (record { kept = contents; desks = t.desks; checks = t.checks }) w

-- the token refines the world, and since these contents it has given so many ids at most
abbrev pub ShowsAfter : {K : Type 0} → Terms K → Contents → ℕ → TokenState K → World → Type 0
ShowsAfter terms before count t w = (s : Shows terms t w) × (s.contents.last_id ≤ before.last_id + count)
