-- All that a token is to all applications, and what an event makes of it.
use Rattle.std.specs.Prelude.{ℕ, Bool, true, false, not, ◌==◌, length, List, [], ◌∷◌, ◌++◌, filter, if◌then◌else◌, Option, Some, None, map}
use Rattle.std.specs.List.{list_any}
use Rattle.ck_types.specs.declared.entry.Entry.{Entry}
use Rattle.ck_types.specs.declared.user_type.UserType.{UserType}
use Rattle.ck_types.specs.declared.user_type.UserType.TheVariants.{So, User}
use Rattle.ck_calls.specs.declared.call.Call.{Call as CallType}
use Rattle.ck_calls.specs.declared.function.Function.{Function}
use Rattle.ck_calls.specs.declared.function.Function.TheVariants as functions
use Rattle.ck_calls.specs.Functions.{function_of}
use Rattle.ck_calls.specs.declared.reply.Reply.{Reply}
use Rattle.mech.specs.declared.work.Work.{Work}
use Rattle.mech.specs.declared.work.Work.TheVariants.{Cipher, Take, Sign, Verify, Wrap, Unwrap, CheckPin, MakePin, ChangePin, InitToken, ResetToken}
use Rattle.mech.specs.Works.{outcome_of}
use Rattle.ops.specs.Operations.{text_of, message_of}
use Rattle.std.specs.Option.{unwrap_or}
use Rattle.model_views.specs.TaskResults.{TaskResult, Right}
use Rattle.model_worlds.specs.WorkResults.{told_of}
use Rattle.model_worlds.specs.declared.check.Check.{Check}
use Rattle.model_worlds.specs.declared.event.Event.{Event}
use Rattle.model_worlds.specs.declared.event.Event.TheVariants.{Call, Finish, Gone}
use Rattle.model_views.specs.declared.fault.Fault.{Fault}
use Rattle.pin_record.specs.Records.{TokenRecord}
use Rattle.pin_record.specs.Charges.{is_same_user, without}
use Rattle.model_views.specs.Views.{View, Task, Ciphers, Takes, Signs, Verifies, WrapsKey, UnwrapsKey, ChecksPin, MakesPin, ChangesPin, InitsToken, ResetsToken, Question, sees, left}
use Rattle.model_views.specs.Changes.{Change, changed, recorded, seen, in_list, as_seen}
use Rattle.model_views.specs.Answering.{Said, Replies, Asks, Answer, Reveal, reveals_nothing, answered, pin_checked_in, has_session}
use Rattle.model_views.specs.Refusals.{refusal}
use Rattle.model_answers.specs.Answers.{answer, answer_result}

-- The token's record, the token objects with their values, the checks that are in progress, and the applications that have a
-- session. Then the full view of each application. One that isn't there has the fresh view.
pub record World : Type 0 where
  pub token_record : TokenRecord
  pub objects : List (List Entry)
  pub checks : List Check
  pub in_session : List ℕ
  pub views : ℕ → View

-- ---- the applications that have a session

-- an application that has this view is one of them, or isn't
abbrev pub seated : ℕ → View → List ℕ → List ℕ
seated app v apps = if has_session v then app ∷ filter (λ n. not (n == app)) apps else filter (λ n. not (n == app)) apps

abbrev pub is_in_session : World → ℕ → Bool
is_in_session w app = list_any (λ n. n == app) w.in_session

abbrev pub others_in_session : World → ℕ → Bool
others_in_session w app = list_any (λ n. not (n == app)) w.in_session

-- ---- checks of PINs

-- the applications that check a PIN
abbrev pub checking : UserType → List Check → List ℕ
checking who cs = map (λ c. c.app) (filter (λ c. is_same_user who c.user) cs)

-- how many others do
abbrev pub others_checking : List Check → ℕ → UserType → ℕ
others_checking cs app who = length (without (checking who cs) app)

-- ---- one application's answer, for all

-- the change of the list of token objects that it makes
abbrev pub list_change : World → ℕ → Answer → Change
list_change w app a = in_list (sees (w.views app).sessions.login) w.objects a.change

-- and as another application sees it
abbrev pub change_for : ℕ → World → ℕ → Answer → Change
change_for b w app a = as_seen (sees (w.views b).sessions.login) w.objects (list_change w app a)

abbrev pub checks_of : ℕ → Option UserType → List Check
checks_of app None = []
checks_of app (Some user) = record { user = user; app = app } ∷ []

-- a check ends with its pending call, and with its application
abbrev pub without_checks : ℕ → List Check → List Check
without_checks app cs = filter (λ c. not (c.app == app)) cs

-- the application takes its answer, and each other one sees its change
abbrev pub stepped : World → ℕ → Answer → World
stepped w app a =
    record {
      token_record = recorded (list_change w app a) w.token_record;
      objects = changed (list_change w app a) w.objects;
      checks = w.checks ++ checks_of app (pin_checked_in a.says);
      in_session = seated app a.view w.in_session;
      views = λ b. if b == app then a.view else seen (change_for b w app a) (w.views b);
    }

-- the application's check is over
abbrev pub unchecked : World → ℕ → World
unchecked w app = record w { checks = without_checks app w.checks }

-- one application's view is replaced
abbrev pub with_view : World → ℕ → View → World
with_view w app v = record w { in_session = seated app v w.in_session; views = λ b. if b == app then v else w.views b }

-- ---- results

-- the work of a task on full views, and its result: what the mechanism makes of it
abbrev pub work_of : Task → Work
work_of (Ciphers part operation input) = Cipher (text_of operation) part input
work_of (Takes place operation input) = Take place (message_of operation) input
work_of (Signs operation input) = Sign (message_of operation) input
work_of (Verifies operation input signature) = Verify (message_of operation) input signature
work_of (WrapsKey key value) = Wrap (unwrap_or key []) (unwrap_or value [])
work_of (UnwrapsKey key wrapped state template random) = Unwrap (unwrap_or key []) wrapped state template random
work_of (ChecksPin who verifier pin) = CheckPin who verifier pin
work_of (MakesPin pin salt) = MakePin pin salt
work_of (ChangesPin who verifier pin new_pin salt) = ChangePin who verifier pin new_pin salt
work_of (InitsToken label pin salt) = InitToken label pin salt
work_of (ResetsToken label verifier pin) = ResetToken label verifier pin

abbrev pub value_of : Task → TaskResult
value_of task = told_of (outcome_of (work_of task))

-- ---- what is revealed from outside (declassified)

-- how many others check the PIN that was right or is set; to the user who logs in all token objects too
abbrev pub reveals_checks : ℕ → Reveal
reveals_checks under_way = record { objects = None; under_way = Some under_way; others_have_sessions = None }

abbrev pub reveals_login : List (List Entry) → UserType → ℕ → Reveal
reveals_login objects So under_way = reveals_checks under_way
reveals_login objects User under_way = record { objects = Some objects; under_way = Some under_way; others_have_sessions = None }

-- and to one who initialises the token whether another application has a session
abbrev pub reveals_sessions : Bool → Reveal
reveals_sessions others_have_sessions = record { objects = None; under_way = None; others_have_sessions = Some others_have_sessions }

abbrev pub reveals_reset : ℕ → Bool → Reveal
reveals_reset under_way others_have_sessions =
    record { objects = None; under_way = Some under_way; others_have_sessions = Some others_have_sessions }

abbrev pub is_init_token : Function → Bool
is_init_token functions.InitToken = true
is_init_token _ = false

abbrev pub reveal_by_call : CallType → Bool → Reveal
reveal_by_call call others_have_sessions =
    if is_init_token (function_of call) then reveals_sessions others_have_sessions else reveals_nothing

abbrev pub if_right : TaskResult → Reveal → Reveal
if_right Right r = r
if_right _ r = reveals_nothing

-- by the task and its result
abbrev pub reveal_by_outcome : Task → TaskResult → List (List Entry) → (UserType → ℕ) → Bool → Reveal
reveal_by_outcome (Ciphers part operation input) outcome objects under_way others_have_sessions = reveals_nothing
reveal_by_outcome (Takes place operation input) outcome objects under_way others_have_sessions = reveals_nothing
reveal_by_outcome (Signs operation input) outcome objects under_way others_have_sessions = reveals_nothing
reveal_by_outcome (Verifies operation input signature) outcome objects under_way others_have_sessions = reveals_nothing
reveal_by_outcome (WrapsKey key value) outcome objects under_way others_have_sessions = reveals_nothing
reveal_by_outcome (UnwrapsKey key wrapped state template random) outcome objects under_way others_have_sessions = reveals_nothing
reveal_by_outcome (ChecksPin who verifier pin) outcome objects under_way others_have_sessions =
    if_right outcome (reveals_login objects who (under_way who))
reveal_by_outcome (MakesPin pin salt) outcome objects under_way others_have_sessions = reveals_checks (under_way User)
reveal_by_outcome (ChangesPin who verifier pin new_pin salt) outcome objects under_way others_have_sessions =
    if_right outcome (reveals_checks (under_way who))
reveal_by_outcome (InitsToken label pin salt) outcome objects under_way others_have_sessions = reveals_sessions others_have_sessions
reveal_by_outcome (ResetsToken label verifier pin) outcome objects under_way others_have_sessions =
    if_right outcome (reveals_reset (under_way So) others_have_sessions)

-- what a call, and a result, reveals of a world
abbrev pub reveal_to_call : World → ℕ → CallType → Reveal
reveal_to_call w app call = reveal_by_call call (others_in_session w app)

abbrev pub reveal_to_outcome : World → ℕ → Task → TaskResult → Reveal
reveal_to_outcome w app task outcome = reveal_by_outcome task outcome w.objects (others_checking w.checks app) (others_in_session w app)

abbrev pub reveal_to_task : World → ℕ → Task → Reveal
reveal_to_task w app task = reveal_to_outcome w app task (value_of task)

-- ---- answers

-- the answers to a call and to a result
abbrev pub answer_at : World → ℕ → CallType → List ℕ → Answer
answer_at w app call random = answer (w.views app) call random (reveal_to_call w app call)

abbrev pub result_at : World → ℕ → Question → Answer
result_at w app q = answer_result (w.views app) (value_of q.task) (reveal_to_task w app q.task)

-- ---- events

-- an event, by its answer, or refused by a resource error
pub data Move : Type 0 where
  Goes : (event : Event) → Move
  Refuses : (event : Event) (fault : Fault) → Move

abbrev pub event_of : Move → Event
event_of (Goes event) = event
event_of (Refuses event fault) = event

-- a result is that of the pending call; without one the event is passed over
abbrev pub finished : World → ℕ → Option Question → World
finished w app None = w
finished w app (Some q) = unchecked (stepped w app (result_at w app q)) app

-- a call, by its answer, or refused by a resource error
abbrev pub called : World → ℕ → CallType → List ℕ → Option Fault → World
called w app call random None = stepped w app (answer_at w app call random)
called w app call random (Some fault) = w

abbrev pub goes : World → Event → World
goes w (Call app call random) = called w app call random.items None
goes w (Finish app) = finished w app (w.views app).question
goes w (Gone app) = unchecked (with_view w app (left (w.views app))) app

-- what a refused result leaves: the pending call is over, and nothing else
abbrev pub finish_refused : World → ℕ → Option Question → World
finish_refused w app None = w
finish_refused w app (Some q) = unchecked (with_view w app (answered (w.views app))) app

-- what a refusal leaves; a disconnect always succeeds
abbrev pub refused : World → Event → World
refused w (Call app call random) = w
refused w (Finish app) = finish_refused w app (w.views app).question
refused w (Gone app) = goes w (Gone app)

-- the world after an event
abbrev pub happens : World → Move → World
happens w (Goes event) = goes w event
happens w (Refuses event fault) = refused w event

-- ---- replies

-- what a call returns
abbrev pub says_called : World → ℕ → CallType → List ℕ → Option Fault → Said
says_called w app call random None = (answer_at w app call random).says
says_called w app call random (Some fault) = Replies (refusal fault)

-- a reply for the application
abbrev pub told : ℕ → Said → List (ℕ × Reply)
told app (Replies reply) = (app, reply) ∷ []
told app (Asks question) = []

abbrev pub finish_tells : World → ℕ → Option Question → List (ℕ × Reply)
finish_tells w app None = []
finish_tells w app (Some q) = told app (result_at w app q).says

abbrev pub finish_refusal : ℕ → Fault → Option Question → List (ℕ × Reply)
finish_refusal app fault None = []
finish_refusal app fault (Some q) = (app, refusal fault) ∷ []

-- the reply to an event, and to whom
abbrev pub reply_to : World → Move → List (ℕ × Reply)
reply_to w (Goes (Call app call random)) = told app (answer_at w app call random.items).says
reply_to w (Goes (Finish app)) = finish_tells w app (w.views app).question
reply_to w (Goes (Gone app)) = []
reply_to w (Refuses (Call app call random) fault) = (app, refusal fault) ∷ []
reply_to w (Refuses (Finish app) fault) = finish_refusal app fault (w.views app).question
reply_to w (Refuses (Gone app) fault) = []

-- ---- runs

-- the world after a list of events
abbrev pub after : World → List Move → World
after w [] = w
after w (m ∷ ms) = after (happens w m) ms

-- all replies, in order
abbrev pub replies : World → List Move → List (ℕ × Reply)
replies w [] = []
replies w (m ∷ ms) = reply_to w m ++ replies (happens w m) ms
