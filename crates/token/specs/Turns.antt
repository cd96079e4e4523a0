-- What a call of an application does to a token, and what the result of its pending call does: a clause each.
use Rattle.std.specs.Prelude.{◌≡◌, ◌≢◌, ◌∷◌, [], ℕ, List, IsSome, None, Option, option_map, true}
use Rattle.ck_calls.specs.declared.call.Call.{Call}
use Rattle.ck_calls.specs.declared.reply.Reply.{Reply}
use Rattle.ck_calls.specs.declared.reply.Reply.TheVariants.{Code}
use Rattle.ck_types.specs.declared.rv.Rv.TheVariants.{DeviceError, FunctionFailed, HostMemory}
use Rattle.keep.specs.Keeping.{Counted, Rises, Terms}
use Rattle.mech.specs.declared.job.Job.{Job}
use Rattle.desk.specs.Desks.{SameDesk, over}
use Rattle.model_views.specs.Refusals.{is_refusal, is_refused, resource_error, resource_error_in}
use Rattle.model_worlds.specs.declared.event.Event.TheVariants.{Finish}
use Rattle.model_worlds.specs.Worlds.{World, called, happens, list_change, reply_to, says_called}
use Rattle.serve_base.specs.declared.out.Out.{Out}
use Rattle.serve_base.specs.declared.out.Out.TheVariants.{Reply as OutReply}
use Rattle.serve_base.specs.Shown.{IsFor, question_of, said_of, task_of}
use Rattle.serve_base.specs.Short.{IsShort, IsShortCall, IsShortSaid, IsShortTask}
use Rattle.serve_base.specs.Stores.{LacksId}
use Rattle.model_runs.specs.Applications.{HasNumbers, IsOpen, IsOther, Shows, ShowsAfter, StandsAtDesk, StandsOverDesk, TokenState, answer_by, desk_at, move_of}
use Rattle.model_runs.specs.Runs.{IsTakenBy, Lasting, LeavesBy, LeftBy, MayLeave, call_change}
use Rattle.token.specs.Memory.{takes_no_memory}

-- a call of an application, with its random bytes, and what is returned
pub record TokenCalled {K : Type 0} (terms : Terms K) (old : TokenState K) (app : ℕ) (call : Call) (random : List ℕ) (result : Out)
    (new : TokenState K) : Type 0 where
  -- The token refines the world after the call.
  pub world : terms.doubt new.store.keep ≡ 0 → (w : World) → Shows terms old w
      → Shows terms new (called w app call random (resource_error_in (said_of result)))
  -- What is returned is the answer to what the application sees, or a resource error.
  pub says : terms.doubt new.store.keep ≡ 0 → (w : World) → Shows terms old w
      → said_of result ≡ says_called w app call random (resource_error_in (said_of result))
  -- A job is the application's.
  pub asker : IsFor app result
  -- A crash leaves the change of the call alone, or after a refusal what it could leave before, or the change.
  pub leaves : terms.doubt new.store.keep ≡ 0 → (w : World) → Shows terms old w → (l : Option Lasting) → MayLeave terms new l
      → LeavesBy (MayLeave terms old) (call_change w app call random) (called w app call random None) (resource_error_in (said_of result)) l
  -- At most one write is tried.
  pub counts : Counted terms old.store.keep new.store.keep 0 1
  -- CKR_DEVICE_ERROR comes only where a failure of the keeper was counted.
  pub cause : result ≡ OutReply (Code DeviceError) → Rises (terms.failures old.store.keep) (terms.failures new.store.keep)
  -- Over a steady keeper it comes only to a call that adds a token object, where every id was given.
  pub steady : terms.is_steady old.store.keep → result ≡ OutReply (Code DeviceError) → (w : World) → (s : Shows terms old w)
      → LacksId (call_change w app call random) s.contents
  -- One id is given at most.
  pub ids : terms.doubt new.store.keep ≡ 0 → (w : World) → (s : Shows terms old w)
      → ShowsAfter terms s.contents 1 new (called w app call random (resource_error_in (said_of result)))
  -- Of the other applications nothing changes, nor where it is refused of this one, but capacities.
  pub others : (b : ℕ) → b ≢ app → SameDesk (desk_at old.desks b) (desk_at new.desks b)
  pub stays : IsSome (resource_error_in (said_of result)) → SameDesk (desk_at old.desks app) (desk_at new.desks app)
  -- A refusal leaves what the application has, but for an operation that it ends, whatever is kept, and store faithful or not.
  pub refused : is_refused (said_of result) ≡ true → StandsAtDesk call (desk_at old.desks app) (desk_at new.desks app)
  -- A call that takes no memory is never answered CKR_HOST_MEMORY.
  pub small : takes_no_memory call ≡ true → result ≢ OutReply (Code HostMemory)
  -- A call with data that fits into a frame returns something as short, or a job for it.
  pub short : IsShortCall call → IsShortSaid (said_of result)

-- the result of an application's pending call, as a job gave it, and what is returned
pub record TokenFinished {K : Type 0} (terms : Terms K) (old : TokenState K) (app : ℕ) (job : Job) (result : Reply)
    (new : TokenState K) : Type 0 where
  -- The token refines the world after the result.
  pub world : terms.doubt new.store.keep ≡ 0 → (w : World) → Shows terms old w → IsOpen w app job
      → Shows terms new (happens w (move_of (Finish app) (OutReply result)))
  -- What is returned is the answer to the result of the pending call, or a resource error.
  pub told : terms.doubt new.store.keep ≡ 0 → (w : World) → Shows terms old w → IsOpen w app job
      → reply_to w (move_of (Finish app) (OutReply result)) ≡ (app, result) ∷ []
  -- A result that has the pending call's numbers is taken by its own value, whatever job it is of.
  pub taken : terms.doubt new.store.keep ≡ 0 → (w : World) → Shows terms old w → HasNumbers (w.views app).question app job
      → IsTakenBy (Shows terms new) (MayLeave terms old) (MayLeave terms new) w app job result
  -- That of no pending call changes nothing, store faithful or not.
  pub other : IsOther (option_map question_of (desk_at old.desks app).question) app job
      → (result ≡ Code FunctionFailed) × (new ≡ old)
  -- A crash leaves the change of the result alone, or after a refusal what it could leave before, or the change.
  pub leaves : terms.doubt new.store.keep ≡ 0 → (w : World) → Shows terms old w → IsOpen w app job → (l : Option Lasting)
      → MayLeave terms new l → LeftBy (MayLeave terms old) w (move_of (Finish app) (OutReply result)) l
  -- At most one write is tried.
  pub counts : Counted terms old.store.keep new.store.keep 0 1
  -- CKR_DEVICE_ERROR comes only where a failure of the keeper was counted.
  pub cause : result ≡ Code DeviceError → Rises (terms.failures old.store.keep) (terms.failures new.store.keep)
  -- Over a steady keeper it comes only to a result that adds a token object, where every id was given.
  pub steady : terms.is_steady old.store.keep → result ≡ Code DeviceError → (w : World) → (s : Shows terms old w)
      → LacksId (list_change w app (answer_by w app job)) s.contents
  -- One id is given at most.
  pub ids : terms.doubt new.store.keep ≡ 0 → (w : World) → (s : Shows terms old w) → IsOpen w app job
      → ShowsAfter terms s.contents 1 new (happens w (move_of (Finish app) (OutReply result)))
  -- Of the other applications nothing changes, nor where it is refused of this one, but its pending call and capacities.
  pub others : (b : ℕ) → b ≢ app → desk_at new.desks b ≡ desk_at old.desks b
  pub stays : IsSome (resource_error result) → SameDesk (over (desk_at old.desks app)) (desk_at new.desks app)
  -- A refused result leaves what the application has, but for its pending call and an operation that it ends.
  pub refused : HasNumbers (option_map question_of (desk_at old.desks app).question) app job → is_refusal result ≡ true
      → StandsOverDesk job (desk_at old.desks app) (desk_at new.desks app)
  -- What is returned for a short job is short.
  pub short : IsShortTask (task_of job.work.value) → IsShort result
