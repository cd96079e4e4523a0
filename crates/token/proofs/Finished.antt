-- The clauses of a finished call, from how its result is taken; and those of a result of no pending call.
use Rattle.std.proofs.Common.{◌≡◌, ◌≢◌, ℕ, true, false, arith, refl, sym, ◌∙◌, rules}
use Rattle.std.proofs.lemmas.Bool.{true≢false}
use Rattle.std.specs.Prelude.{IsSome}
use Rattle.std.specs.Option.{option_map}
use Rattle.ck_calls.specs.declared.reply.Reply.{Reply}
use Rattle.ck_calls.specs.declared.reply.Reply.TheVariants.{Code}
use Rattle.ck_types.specs.declared.rv.Rv.TheVariants.{DeviceError, FunctionFailed}
use Rattle.keep.specs.Keeping.{Counted, Rises, Terms}
use Rattle.mech.specs.declared.job.Job.{Job}
use Rattle.desk.specs.Desks.{SameDesk, over}
use Rattle.model_views.specs.Refusals.{is_refusal, resource_error}
use Rattle.model_worlds.specs.Worlds.{World, list_change, happens}
use Rattle.model_worlds.specs.declared.event.Event.TheVariants.{Finish}
use Rattle.serve_base.specs.declared.out.Out.TheVariants.{Reply as OutReply}
use Rattle.serve_base.specs.Shown.{question_of, task_of}
use Rattle.serve_base.specs.Short.{IsShort, IsShortTask}
use Rattle.serve_base.specs.Stores.{LacksId}
use Rattle.model_runs.specs.Applications.{HasNumbers, IsOpen, IsOther, Shows, ShowsAfter, StandsOverDesk, TokenState, answer_by, desk_at, is_answer, move_of}
use Rattle.model_runs.specs.Runs.{IsTakenBy, MayLeave}
use Rattle.model_runs.proofs.Jobs.{answer-has, told-has}
use Rattle.model_runs.proofs.Resulted.{open-numbers, shows-open, tells-open, leaves-open}
use Rattle.token.specs.Turns.{TokenFinished}

module _ {K : Type 0} (terms : Terms K) (old : TokenState K) (app : ℕ) (job : Job) (result : Reply) (new : TokenState K) where
  pub finished : (terms.doubt new.store.keep ≡ 0 → (w : World) → Shows terms old w → HasNumbers (w.views app).question app job
      → IsTakenBy (Shows terms new) (MayLeave terms old) (MayLeave terms new) w app job result)
      → (IsOther (option_map question_of (desk_at old.desks app).question) app job → (result ≡ Code FunctionFailed) × (new ≡ old))
      → Counted terms old.store.keep new.store.keep 0 1
      → (result ≡ Code DeviceError → Rises (terms.failures old.store.keep) (terms.failures new.store.keep))
      → (terms.is_steady old.store.keep → result ≡ Code DeviceError → (w : World) → (s : Shows terms old w)
      → LacksId (list_change w app (answer_by w app job)) s.contents)
      → (terms.doubt new.store.keep ≡ 0 → (w : World) → (s : Shows terms old w) → IsOpen w app job
      → ShowsAfter terms s.contents 1 new (happens w (move_of (Finish app) (OutReply result))))
      → ((b : ℕ) → b ≢ app → desk_at new.desks b ≡ desk_at old.desks b)
      → (IsSome (resource_error result) → SameDesk (over (desk_at old.desks app)) (desk_at new.desks app))
      → (HasNumbers (option_map question_of (desk_at old.desks app).question) app job → is_refusal result ≡ true
      → StandsOverDesk job (desk_at old.desks app) (desk_at new.desks app))
      → (IsShortTask (task_of job.work.value) → IsShort result)
      → TokenFinished terms old app job result new
  finished taken other counts cause steady ids others stays refused short = record {
    world = λ sure w s is. shows-open w app job is _ _ _ result (taken sure w s (open-numbers w app job is));
    told = λ sure w s is. tells-open w app job is _ _ _ result (taken sure w s (open-numbers w app job is));
    taken = taken;
    other = other;
    leaves = λ sure w s is. leaves-open w app job is _ _ _ result (taken sure w s (open-numbers w app job is));
    counts = counts;
    cause = cause;
    steady = steady;
    ids = ids;
    others = others;
    stays = stays;
    refused = refused;
    short = short;
  }

-- a result of no pending call changes nothing
module _ {K : Type 0} (terms : Terms K) (old : TokenState K) (app : ℕ) (job : Job)
    (no : is_answer (desk_at old.desks app).question app job ≡ false) where
  none-has : HasNumbers (option_map question_of (desk_at old.desks app).question) app job → ⊥
  none-has has = true≢false (sym (answer-has (desk_at old.desks app).question app job has) ∙ no)

  none-open : (w : World) → Shows terms old w → HasNumbers (w.views app).question app job → ⊥
  none-open w s has = true≢false (sym (told-has terms old.store old.desks old.checks app job w s has) ∙ no)

  none-blamed : Code FunctionFailed ≡ Code DeviceError → ⊥
  none-blamed is = cc

  none-counted : Counted terms old.store.keep old.store.keep 0 1
  none-counted = record {
    steady = λ is. is;
    doubt = search rules;
    failures = search rules;
    tried = omega arith;
    bounded = omega arith;
  }

  pub finished-none : TokenFinished terms old app job (Code FunctionFailed) old
  finished-none = finished terms old app job (Code FunctionFailed) old
      (λ sure w s has. absurd (none-open w s has))
      (λ other. (refl, refl))
      none-counted
      (λ is. absurd (none-blamed is))
      (λ steady is. absurd (none-blamed is))
      (λ sure w s is. absurd (none-open w s (open-numbers w app job is)))
      (λ b differ. refl)
      (λ some. let k : false ≡ true = some in cc)
      (λ has. absurd (none-has has))
      (λ few. tt)
