-- What a call does, and what it returns, in one clause.
use Rattle.std.proofs.Common.{◌≡◌, ◌⊎◌, inl, inr, ℕ, ◌≤◌, true, Result, Ok, Err, refl, sym, ◌∙◌, ap, subst, arith}
use Rattle.std.specs.Prelude.{IfErr, IfOk}
use Rattle.keep.specs.Keeping.{Terms}
use Rattle.desk.specs.Desks.{DeskState, SameDesk}
use Rattle.model_views.specs.declared.fault.Fault.TheVariants as faults
use Rattle.model_views.specs.Views.{View}
use Rattle.model_views.specs.Answering.{Said, Answer}
use Rattle.model_views.specs.Refusals.{is_refused}
use Rattle.serve_base.specs.declared.out.Out.{Out}
use Rattle.serve_base.specs.declared.refusal.Refusal.{Refusal}
use Rattle.serve_base.specs.declared.refusal.Refusal.TheVariants as refusals
use Rattle.serve_base.specs.Refusing.{EndsNone, GivesAnyway, IsDoneIf, IsServedIf, refused_as, settled}
use Rattle.serve_base.specs.Short.{IsShortSaid}
use Rattle.serve_base.specs.Shown.{said_of, view_of, ShowsSame}
use Rattle.serve_base.specs.Stores.{StoreState}
use Rattle.serve_base.proofs.Plain.{plain-done_as, stays-settled}
use Rattle.serve_base.proofs.Refusals.{lacks-does_as, serves-done_as}

-- CKR_DEVICE_ERROR comes of a failed keeper alone
pub blamed : {T : Type 0} (as_out : T → Out) (r : Result T Refusal) → settled as_out r ≡ Err faults.Device → r ≡ Err refusals.Device
blamed as_out (Ok t) is = let k : Ok (as_out t) ≡ Err faults.Device = is in cc
blamed as_out (Err (refusals.Condition row)) is = let k : refused_as (refusals.Condition row) ≡ Err faults.Device = is in cc
blamed as_out (Err (refusals.Code code)) is = let k : refused_as (refusals.Code code) ≡ Err faults.Device = is in cc
blamed as_out (Err refusals.Memory) is = let k : refused_as refusals.Memory ≡ Err faults.Device = is in cc
blamed as_out (Err refusals.Device) is = refl

-- what is short is returned as short, and so is a refusal
pub short-settled : {T : Type 0} (tell : T → Said) (as_out : T → Out) (r : Result T Refusal)
    → ((t : T) → said_of (as_out t) ≡ tell t) → IfOk r (λ t. IsShortSaid (tell t))
    → IfOk (settled as_out r) (λ out. IsShortSaid (said_of out))
short-settled tell as_out (Ok t) same short = subst IsShortSaid (sym (same t)) short
short-settled tell as_out (Err (refusals.Condition row)) same short = tt
short-settled tell as_out (Err (refusals.Code code)) same short = tt
short-settled tell as_out (Err refusals.Memory) same short = tt
short-settled tell as_out (Err refusals.Device) same short = tt

-- a desk but for capacities shows the same
pub same-shows : (old new : DeskState) → SameDesk old new → ShowsSame old new
same-shows old new is c fits = rw is refl

-- a refusal leaves what the desk shows
pub refused-settled : {T : Type 0} (tell : T → Said) (as_out : T → Out) (f : View → Answer) (before desk : DeskState)
    (r : Result T Refusal) → ((t : T) → said_of (as_out t) ≡ tell t) → IfErr r (λ refusal. SameDesk before desk)
    → IfOk r (λ t. is_refused (tell t) ≡ true → ShowsSame before desk ⊎ EndsNone (tell t))
    → IfOk (settled as_out r) (λ out. is_refused (said_of out) ≡ true → ShowsSame before desk
    ⊎ GivesAnyway (λ c. f) before (said_of out) desk)
refused-settled tell as_out f before desk (Ok t) same stays shows = λ is. elim (shows (ap is_refused (sym (same t)) ∙ is)) [
  | inl k ↦ inl k
  | inr none ↦ absurd none
]
refused-settled tell as_out f before desk (Err (refusals.Condition row)) same stays shows = λ is. inl (same-shows before desk stays)
refused-settled tell as_out f before desk (Err (refusals.Code code)) same stays shows = λ is. inl (same-shows before desk stays)
refused-settled tell as_out f before desk (Err refusals.Memory) same stays shows = tt
refused-settled tell as_out f before desk (Err refusals.Device) same stays shows = tt

-- a call that replies or returns a job, and tries one write at most
pub served-as : {given : Type 0} {K T : Type 0} (terms : Terms K) (tell : T → Said) (as_out : T → Out) (kind : Out → Type 0)
    (writes : ℕ) (f : View → Answer) (old new : StoreState K) (before desk : DeskState) (r : Result T Refusal)
    → ((t : T) → said_of (as_out t) ≡ tell t) → writes ≤ 1 → IfOk (settled as_out r) kind
    → ((k : K) → terms.is_steady k → terms.doubt k ≡ 0)
    → IsDoneIf given EndsNone terms tell writes (λ c. f) old new before r desk
    → IsServedIf given terms kind f old new before (settled as_out r) desk
served-as terms tell as_out kind writes f old new before desk r same few says sure_of done = record {
  serves = λ sure c h fits. serves-done_as terms tell as_out (f (view_of c before)) c old new before desk r same fits
      (done.serves sure c h fits);
  says = says;
  counts = record {
    steady = done.counts.steady;
    doubt = done.counts.doubt;
    failures = done.counts.failures;
    tried = done.counts.tried;
    bounded = (let k = done.counts.bounded in omega (arith, few, k));
  };
  cause = λ device. done.cause (blamed as_out r device);
  steady = λ was device c h fits. lacks-does_as terms tell (f (view_of c before)) c old new before desk r
      (done.serves (sure_of new.keep (done.counts.steady was)) c h fits) was (blamed as_out r device);
  plain = plain-done_as tell as_out r same done.plain;
  stays = stays-settled as_out before desk r done.stays;
  refused = refused-settled tell as_out f before desk r same done.stays done.refused;
  short = λ is. short-settled tell as_out r same (done.short is);
}
