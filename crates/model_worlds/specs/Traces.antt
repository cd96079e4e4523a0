-- What one application observes in a run (its trace), and the replies that it gets.
use Rattle.std.specs.Prelude.{◌≡◌, ◌≢◌, ℕ, Bool, true, false, ◌==◌, ◌||◌, ◌&&◌, not, ◌⊎◌, List, [], ◌∷◌, ◌++◌, map, filter, if◌then◌else◌, Option, Some, None}
use Rattle.std.specs.List.{AllByRecursion}
use Rattle.std.proofs.Common.{zero, suc}
use Rattle.ck_types.specs.declared.entry.Entry.{Entry}
use Rattle.ck_types.specs.declared.rv.Rv.TheVariants.{HostMemory, DeviceError}
use Rattle.ck_calls.specs.declared.call.Call.{Call as CallType}
use Rattle.ck_calls.specs.declared.function.Function.{Function}
use Rattle.ck_calls.specs.Functions.{function_of}
use Rattle.ck_calls.specs.declared.reply.Reply.{Reply}
use Rattle.ck_calls.specs.declared.reply.Reply.TheVariants.{Code}
use Rattle.guard.specs.Access.{is_public, is_user_in}
use Rattle.model_views.specs.declared.fault.Fault.{Fault}
use Rattle.model_views.specs.TaskResults.{TaskResult, mask_outcome}
use Rattle.model_worlds.specs.declared.event.Event.{Event}
use Rattle.model_worlds.specs.declared.event.Event.TheVariants.{Call, Finish, Gone}
use Rattle.model_views.specs.Views.{View, Question, mask, left}
use Rattle.model_views.specs.Changes.{Change, Stays, Insert, Replace, Remove, Records, Resets, mask_change, seen, is_seen, is_still}
use Rattle.model_views.specs.Answering.{Said, Replies, Asks, Answer, Reveal, mask_reveal, answered}
use Rattle.model_views.specs.Refusals.{refusal, resource_error}
use Rattle.model_answers.specs.Answers.{answer, answer_result, is_pin_function, is_pin_task, is_key_task, may_change_objects}
use Rattle.model_worlds.specs.Worlds.{World, Move, Goes, Refuses, event_of, value_of, reveal_to_call, reveal_to_task, answer_at, result_at, list_change, change_for, happens, after, replies}

-- what an application does, what it gets, its disconnect, and what it sees of others
pub data Moment : Type 0 where
  Calls : (call : CallType) (random : List ℕ) (reveal : Reveal) → Moment
  Gets : (outcome : TaskResult) (reveal : Reveal) → Moment
  -- memory or the store failed at a call, or at a result: declassified, and the only thing that such an event reveals
  CallFails : (fault : Fault) → Moment
  ResultFails : (fault : Fault) → Moment
  Leaves : Moment
  Sees : (change : Change) → Moment

-- a change by others, as it is seen, where it alters the view
abbrev pub saw : View → Change → List Moment
saw v change = if is_seen v change then Sees (mask_change change) ∷ [] else []

abbrev pub saw_result : ℕ → World → ℕ → Option Question → List Moment
saw_result app w other None = []
saw_result app w other (Some q) = saw (w.views app) (change_for app w other (result_at w other q))

-- a result, as it is revealed, with what it declassifies
abbrev pub got : World → ℕ → Option Question → List Moment
got w app None = []
got w app (Some q) = Gets (mask_outcome (value_of q.task)) (mask_reveal (reveal_to_task w app q.task)) ∷ []

-- a result that met a resource error; where no call is pending there is none
abbrev pub failed : Fault → Option Question → List Moment
failed fault None = []
failed fault (Some q) = ResultFails fault ∷ []

abbrev pub moments : ℕ → World → Move → List Moment
moments app w (Goes (Call other call random)) =
    if app == other then Calls call random.items (mask_reveal (reveal_to_call w other call)) ∷ []
    else saw (w.views app) (change_for app w other (answer_at w other call random.items))
moments app w (Goes (Finish other)) =
    if app == other then got w other (w.views other).question else saw_result app w other (w.views other).question
moments app w (Goes (Gone other)) = if app == other then Leaves ∷ [] else []
moments app w (Refuses (Gone other) fault) = if app == other then Leaves ∷ [] else []
moments app w (Refuses (Call other call random) fault) = if app == other then CallFails fault ∷ [] else []
moments app w (Refuses (Finish other) fault) = if app == other then failed fault (w.views other).question else []

-- all of a run that comes to the application
abbrev pub trace : ℕ → World → List Move → List Moment
trace app w [] = []
trace app w (m ∷ ms) = moments app w m ++ trace app (happens w m) ms

abbrev pub said : Said → List Reply
said (Replies reply) = reply ∷ []
said (Asks question) = []

-- the replies of a trace, from a view
abbrev pub replies_told : View → List Moment → List Reply
replies_told v [] = []
replies_told v (Calls call random reveal ∷ ms) =
    said (answer v call random reveal).says ++ replies_told (mask (answer v call random reveal).view) ms
replies_told v (Gets outcome reveal ∷ ms) =
    said (answer_result v outcome reveal).says ++ replies_told (mask (answer_result v outcome reveal).view) ms
replies_told v (CallFails fault ∷ ms) = refusal fault ∷ replies_told v ms
replies_told v (ResultFails fault ∷ ms) = refusal fault ∷ replies_told (answered v) ms
replies_told v (Leaves ∷ ms) = replies_told (left v) ms
replies_told v (Sees change ∷ ms) = replies_told (seen change v) ms

-- the view that it leads to
abbrev pub view_told : View → List Moment → View
view_told v [] = v
view_told v (Calls call random reveal ∷ ms) = view_told (mask (answer v call random reveal).view) ms
view_told v (Gets outcome reveal ∷ ms) = view_told (mask (answer_result v outcome reveal).view) ms
view_told v (CallFails fault ∷ ms) = view_told v ms
view_told v (ResultFails fault ∷ ms) = view_told (answered v) ms
view_told v (Leaves ∷ ms) = view_told (left v) ms
view_told v (Sees change ∷ ms) = view_told (seen change v) ms

-- the replies to the application
abbrev pub replies_to : ℕ → List (ℕ × Reply) → List Reply
replies_to app told = map (λ r. r.1) (filter (λ r. app == r.0) told)

abbrev pub app_of : Event → ℕ
app_of (Call app call random) = app
app_of (Finish app) = app
app_of (Gone app) = app

-- no reply to the application is a resource error: CKR_HOST_MEMORY or CKR_DEVICE_ERROR
abbrev pub NoResourceError : ℕ → List (ℕ × Reply) → Type 0
NoResourceError app told = AllByRecursion (λ r. (r ≢ Code HostMemory) × (r ≢ Code DeviceError)) (replies_to app told)

-- the resource errors among replies, in their order
abbrev pub with_fault : Option Fault → List Fault → List Fault
with_fault None faults = faults
with_fault (Some fault) faults = fault ∷ faults

abbrev pub faults_in : List Reply → List Fault
faults_in [] = []
faults_in (reply ∷ rs) = with_fault (resource_error reply) (faults_in rs)

-- and those in a trace
abbrev pub failures_in : List Moment → List Fault
failures_in [] = []
failures_in (Calls call random reveal ∷ ms) = failures_in ms
failures_in (Gets outcome reveal ∷ ms) = failures_in ms
failures_in (CallFails fault ∷ ms) = fault ∷ failures_in ms
failures_in (ResultFails fault ∷ ms) = fault ∷ failures_in ms
failures_in (Leaves ∷ ms) = failures_in ms
failures_in (Sees change ∷ ms) = failures_in ms

-- nothing in a trace is one
abbrev pub is_failure : Moment → Bool
is_failure (Calls call random reveal) = false
is_failure (Gets outcome reveal) = false
is_failure (CallFails fault) = true
is_failure (ResultFails fault) = true
is_failure Leaves = false
is_failure (Sees change) = false

abbrev pub HasNoFailure : List Moment → Type 0
HasNoFailure ms = AllByRecursion (λ m. is_failure m ≡ false) ms

-- the application's replies, and its view after the run, are those of its trace
pub record IsTold (app : ℕ) (w : World) (moves : List Move) : Type 0 where
  pub told : replies_to app (replies w moves) ≡ replies_told (mask (w.views app)) (trace app w moves)
  pub sees : mask ((after w moves).views app) ≡ view_told (mask (w.views app)) (trace app w moves)

-- ---- quiet (non-interfering) events

-- A call is quiet where it is none of a PIN, and none that makes, changes or destroys a token object.
abbrev pub is_quiet_call : Function → Answer → Bool
is_quiet_call function a = not (is_pin_function function) && (not (may_change_objects function) || is_still a.change)

-- and a result where it is none of a PIN, and makes no token object
abbrev pub is_quiet_result : World → ℕ → Option Question → Bool
is_quiet_result w app None = true
is_quiet_result w app (Some q) = not (is_pin_task q.task) && (not (is_key_task q.task) || is_still (result_at w app q).change)

abbrev pub is_quiet : World → Event → Bool
is_quiet w (Call app call random) = is_quiet_call (function_of call) (answer_at w app call random.items)
is_quiet w (Finish app) = is_quiet_result w app (w.views app).question
is_quiet w (Gone app) = true

-- the object at an index is private
abbrev pub private_at : List (List Entry) → ℕ → Bool
private_at [] index = true
private_at (o ∷ os) zero = not (is_public o)
private_at (o ∷ os) (suc index) = private_at os index

-- it is a private object that a change of the list makes, changes or takes out
abbrev pub is_private : List (List Entry) → Change → Bool
is_private objects Stays = true
is_private objects (Insert o) = not (is_public o)
is_private objects (Replace index o) = private_at objects index
is_private objects (Remove index) = private_at objects index
is_private objects (Records r) = false
is_private objects (Resets r) = false

abbrev pub is_private_result : World → ℕ → Option Question → Bool
is_private_result w app None = true
is_private_result w app (Some q) = not (is_pin_task q.task) && is_private w.objects (list_change w app (result_at w app q))

abbrev pub is_private_event : World → Event → Bool
is_private_event w (Call app call random) =
    not (is_pin_function (function_of call)) && is_private w.objects (list_change w app (answer_at w app call random.items))
is_private_event w (Finish app) = is_private_result w app (w.views app).question
is_private_event w (Gone app) = true

-- An event of another application of which this one sees nothing: it is quiet, or it makes, changes or destroys a
-- private token object while this one's user isn't logged in.
pub record IsQuiet (app : ℕ) (w : World) (event : Event) : Type 0 where
  pub other : app_of event ≢ app
  pub quiet : (is_quiet w event ≡ true) ⊎ (is_user_in (w.views app).sessions.login ≡ false) × (is_private_event w event ≡ true)

-- the application's own event belongs to no call of a PIN
abbrev pub is_pin_question : Option Question → Bool
is_pin_question None = false
is_pin_question (Some q) = is_pin_task q.task

abbrev pub is_pin_event : World → Event → Bool
is_pin_event w (Call app call random) = is_pin_function (function_of call)
is_pin_event w (Finish app) = is_pin_question (w.views app).question
is_pin_event w (Gone app) = false

-- An event of another application of which this one sees nothing, as it takes place or is refused: a quiet one, or one that is
-- refused and belongs to no call of a PIN.
abbrev pub IsQuietMove : ℕ → World → Move → Type 0
IsQuietMove app w (Goes event) = IsQuiet app w event
IsQuietMove app w (Refuses event fault) = IsQuiet app w event ⊎ ((app_of event ≢ app) × (is_pin_event w event ≡ false))

-- every event of a run is the application's own and belongs to no call of a PIN, or it is quiet
abbrev pub AllQuiet : ℕ → World → List Move → Type 0
AllQuiet app w [] = Unit {0}
AllQuiet app w (m ∷ ms) = ((app_of (event_of m) ≡ app) × (is_pin_event w (event_of m) ≡ false) ⊎ IsQuietMove app w m)
    × AllQuiet app (happens w m) ms

-- the application's own events
abbrev pub own_moves : ℕ → List Move → List Move
own_moves app ms = filter (λ m. app == app_of (event_of m)) ms
