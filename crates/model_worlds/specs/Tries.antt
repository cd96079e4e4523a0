-- The tries of the PINs in a world and over a run: what is stored and in progress, and which events of PINs a move
-- (transition) is. `pin_record` defines what these make of the record. Then what is so of every world of a run.
use Rattle.std.specs.Prelude.{◌≡◌, ℕ, ◌==◌, Bool, true, false, List, [], ◌∷◌, ◌++◌, filter, if◌then◌else◌, Option, Some, None}
use Rattle.ck_types.specs.declared.user_type.UserType.{UserType}
use Rattle.ck_types.specs.declared.user_type.UserType.TheVariants.{So, User}
use Rattle.pin_record.specs.Verifiers.{verifier_for, new_rounds}
use Rattle.pin_record.specs.Charges.{Charges, Event as PinEvent, Begins, EndsRight, EndsOtherwise, SetsPin, Initializes, spent, IsCharged}
use Rattle.model_worlds.specs.declared.check.Check.{Check}
use Rattle.model_worlds.specs.declared.event.Event.TheVariants.{Call, Finish, Gone}
use Rattle.model_views.specs.TaskResults.{TaskResult, Right, Made}
use Rattle.model_views.specs.Views.{View, Task, Ciphers, Takes, Signs, Verifies, WrapsKey, UnwrapsKey, ChecksPin, MakesPin, ChangesPin, InitsToken, ResetsToken, Question}
use Rattle.model_views.specs.Answering.{Reveal, pin_checked_by, pin_checked_in, has_session}
use Rattle.model_session_answers.specs.Pins.{verifier_or}
use Rattle.model_session_answers.specs.InitPin.{may_set_pin}
use Rattle.model_session_answers.specs.InitToken.{is_in_use, may_init}
use Rattle.model_worlds.specs.Worlds.{World, is_in_session, checking, checks_of, value_of, reveal_to_outcome, answer_at, Move, Goes, Refuses, happens}

-- ---- what is stored, and in progress

-- A check is known by its application, which has one pending call at a time.
abbrev pub charges_of : World → Charges
charges_of w = record { stored = w.token_record; so_checks = checking So w.checks; user_checks = checking User w.checks }

-- ---- the events of PINs that a move is

-- the PIN that a pending call checks
abbrev pub pending_check : Option Question → Option UserType
pending_check None = None
pending_check (Some q) = pin_checked_by q.task

-- a check begins
abbrev pub begins : ℕ → Option UserType → List PinEvent
begins app None = []
begins app (Some who) = Begins who app ∷ []

-- and ends: right, or wrong or abandoned
abbrev pub ends : ℕ → Option UserType → Bool → List PinEvent
ends app None right = []
ends app (Some who) true = EndsRight who app ∷ []
ends app (Some who) false = EndsOtherwise who app ∷ []

-- by its outcome a PIN was right
abbrev pub is_right : TaskResult → Bool
is_right Right = true
is_right _ = false

-- what a result sets anew: the user's PIN, the PIN whose old one was right, or all of the token
abbrev pub sets_new : View → Reveal → List ℕ → List ℕ → TaskResult → List PinEvent
sets_new v r pin salt Made = if may_set_pin v r then SetsPin User (verifier_for pin salt new_rounds) ∷ [] else []
sets_new v r pin salt _ = []

abbrev pub sets_changed : UserType → List ℕ → List ℕ → TaskResult → List PinEvent
sets_changed who pin salt Right = SetsPin who (verifier_for pin salt new_rounds) ∷ []
sets_changed who pin salt _ = []

abbrev pub inits : View → Reveal → List ℕ → List ℕ → List ℕ → TaskResult → List PinEvent
inits v r label pin salt Made =
    if may_init v then (if is_in_use v r then [] else Initializes label (verifier_for pin salt new_rounds) ∷ []) else []
inits v r label pin salt _ = []

abbrev pub resets : View → Reveal → List ℕ → TaskResult → List PinEvent
resets v r label Right = if is_in_use v r then [] else Initializes label (verifier_or v.token_record So) ∷ []
resets v r label _ = []

abbrev pub sets : View → Reveal → Task → TaskResult → List PinEvent
sets v r (Ciphers part operation input) outcome = []
sets v r (Takes place operation input) outcome = []
sets v r (Signs operation input) outcome = []
sets v r (Verifies operation input signature) outcome = []
sets v r (WrapsKey key value) outcome = []
sets v r (UnwrapsKey key wrapped state template random) outcome = []
sets v r (ChecksPin who verifier pin) outcome = []
sets v r (MakesPin pin salt) outcome = sets_new v r pin salt outcome
sets v r (ChangesPin who verifier pin new_pin salt) outcome = sets_changed who new_pin salt outcome
sets v r (InitsToken label pin salt) outcome = inits v r label pin salt outcome
sets v r (ResetsToken label verifier pin) outcome = resets v r label outcome

-- a check ends first, and then a PIN may be set
abbrev pub events_of_outcome : World → ℕ → Task → TaskResult → List PinEvent
events_of_outcome w app task outcome =
    ends app (pin_checked_by task) (is_right outcome) ++ sets (w.views app) (reveal_to_outcome w app task outcome) task outcome

abbrev pub events_of_result : World → ℕ → Option Question → List PinEvent
events_of_result w app None = []
events_of_result w app (Some q) = events_of_outcome w app q.task (value_of q.task)

-- A check begins when its call becomes pending. It ends with its result, or wrong or abandoned where that is refused or
-- its application disconnects.
abbrev pub events_of : World → Move → List PinEvent
events_of w (Goes (Call app call random)) = begins app (pin_checked_in (answer_at w app call random.items).says)
events_of w (Goes (Finish app)) = events_of_result w app (w.views app).question
events_of w (Goes (Gone app)) = ends app (pending_check (w.views app).question) false
events_of w (Refuses (Call app call random) fault) = []
events_of w (Refuses (Finish app) fault) = ends app (pending_check (w.views app).question) false
events_of w (Refuses (Gone app) fault) = ends app (pending_check (w.views app).question) false

-- and over a run
abbrev pub events_in : World → List Move → List PinEvent
events_in w [] = []
events_in w (m ∷ ms) = events_of w m ++ events_in (happens w m) ms

-- ---- sound worlds

-- the checks of an application
abbrev pub checks_by : ℕ → List Check → List Check
checks_by app cs = filter (λ c. c.app == app) cs

-- What is so of every world of a run, where so many checks of each PIN are spent.
pub record IsSoundWorld (s : UserType → ℕ) (w : World) : Type 0 where
  -- an application has a check in progress just where its pending call checks a PIN: that one, once
  pub checks : (app : ℕ) → checks_by app w.checks ≡ checks_of app (pending_check (w.views app).question)
  -- one that checks the user's PIN has a session
  pub seated : (app : ℕ) → pending_check (w.views app).question ≡ Some User → (has_session (w.views app) ≡ true)
      × (is_in_session w app ≡ true)
  -- each application sees the record
  pub records : (app : ℕ) → (w.views app).token_record ≡ w.token_record
  -- the tries of each PIN are the checks of it that are spent and those in progress, ten at most
  pub tries : (who : UserType) → IsCharged who (s who) (charges_of w)

-- how many checks of each PIN are spent after a run
abbrev pub spent_in : (UserType → ℕ) → World → List Move → UserType → ℕ
spent_in s w ms who = spent who (s who) (charges_of w) (events_in w ms)
