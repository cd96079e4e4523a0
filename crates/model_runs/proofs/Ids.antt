-- While there is an id for each object to come, a steady keeper is not blamed.
use Rattle.std.proofs.Common.{◌≡◌, ℕ, ◌+◌, ◌≤◌, arith, length, List, [], ◌∷◌, ◌++◌, map, Option, Some, None, inl, inr, refl, subst}
use Rattle.std.specs.Prelude.{◌⊎◌}
use Rattle.ck_types.specs.declared.rv.Rv.TheVariants.{DeviceError}
use Rattle.ck_calls.specs.declared.reply.Reply.{Reply}
use Rattle.ck_calls.specs.declared.reply.Reply.TheVariants.{Code}
use Rattle.keep.specs.Contents.{Contents}
use Rattle.keep.specs.Keeping.{Terms}
use Rattle.mech.specs.declared.job.Job.{Job}
use Rattle.model_views.specs.declared.fault.Fault.{Fault}
use Rattle.model_views.specs.declared.fault.Fault.TheVariants.{Memory, Device}
use Rattle.model_views.specs.Refusals.{resource_error}
use Rattle.model_worlds.specs.declared.event.Event.{Event}
use Rattle.model_worlds.specs.Worlds.{World, happens}
use Rattle.model_runs.specs.Applications.{HasJobs, Shows, ShowsAfter, TokenState}
use Rattle.model_runs.specs.Runs.{BlamesForIds, HasIds, IsStep, Lasting, blames}
use Rattle.model_runs.proofs.Accounts.{blames-append, device-is}

pub shows-more : {K : Type 0} (terms : Terms K) (c : Contents) (few many : ℕ) (t : TokenState K) (w : World) → few ≤ many
    → ShowsAfter terms c few t w → ShowsAfter terms c many t w
shows-more terms c few many t w more s = (s.0, let k = s.1 in omega (arith, k, more))

-- a step is one, however many ids were given
pub step-shows : {K : Type 0} (terms : Terms K) (c : Contents) (count : ℕ) (new : TokenState K)
    (prior left : Option Lasting → Type 0) (w : World) (event : Event) (said : List (ℕ × Reply)) (out : List (ℕ × Job))
    → IsStep (ShowsAfter terms c count new) prior left w event said out → IsStep (Shows terms new) prior left w event said out
step-shows terms c count new prior left w event said out step =
    record { move = step.move; takes = step.takes; tells = step.tells; shows = step.shows.0; jobs = step.jobs; leaves = step.leaves }

module _ (P : Type 0) where
  -- one reply, which blames the device only where P holds
  pub blames-one : (reply : Reply) → (reply ≡ Code DeviceError → P) → (blames (reply ∷ []) ≡ 0) ⊎ P
  blames-one reply cause = by (resource_error reply) refl where
    by : (o : Option Fault) → resource_error reply ≡ o → (blames (reply ∷ []) ≡ 0) ⊎ P
    by None is = inl (rw is refl)
    by (Some Memory) is = inl (rw is refl)
    by (Some Device) is = inr (cause (device-is reply is))

-- one that doesn't
pub blames-none : (reply : Reply) → (reply ≡ Code DeviceError → ⊥) → blames (reply ∷ []) ≡ 0
blames-none reply not_so = elim (blames-one ⊥ reply not_so) [
  | inl none ↦ none
  | inr wrong ↦ absurd wrong
]

module _ {K : Type 0} (terms : Terms K) (old new : TokenState K) (out out' : List (ℕ × Job)) (n : ℕ)
    (has : HasIds terms old out (n + 1)) where
  pub blameless : (event : Event) (said : List Reply) → BlamesForIds has.world event has.shows.contents said → blames said ≡ 0
  blameless event said (inl none) = none
  blameless event said (inr lacks) = let last = lacks.1 in let room = has.ids in absurd (omega (arith, last, room))

  pub ids-step : (prior left : Option Lasting → Type 0) (event : Event) (said : List (ℕ × Reply)) → terms.is_steady new.store.keep
      → IsStep (ShowsAfter terms has.shows.contents 1 new) prior left has.world event said out' → HasIds terms new out' n
  ids-step prior left event said steady step = record {
    steady = steady;
    world = happens has.world step.move;
    jobs = step.jobs;
    shows = step.shows.0;
    ids = let room = has.ids in let one = step.shows.1 in omega (arith, room, one);
  }

-- the first of the events to come is taken
pub next-ids : {K : Type 0} (terms : Terms K) (old new : TokenState K) (out out' : List (ℕ × Job))
    (prior left : Option Lasting → Type 0) (events rest : List Event) (event : Event) (said : List (ℕ × Reply))
    → length events ≡ length rest + 1 → HasIds terms old out (length events)
    → (terms.is_steady old.store.keep → terms.is_steady new.store.keep) → ((k : K) → terms.is_steady k → terms.doubt k ≡ 0)
    → (terms.doubt new.store.keep ≡ 0 → (w : World) → (s : Shows terms old w) → HasJobs w out
    → IsStep (ShowsAfter terms s.contents 1 new) prior left w event said out')
    → (terms.is_steady old.store.keep → (w : World) → (s : Shows terms old w) → HasJobs w out
    → BlamesForIds w event s.contents (map (λ r. r.1) said))
    → (blames (map (λ r. r.1) said) ≡ 0) × HasIds terms new out' (length rest)
next-ids terms old new out out' prior left events rest event said one has keeps sure step steady =
    let more : HasIds terms old out (length rest + 1) = subst (HasIds terms old out) one has in
    let now = keeps more.steady in (
      blameless terms old new out out' (length rest) more event (map (λ r. r.1) said) (steady more.steady more.world more.shows more.jobs),
      ids-step terms old new out out' (length rest) more prior left event said now
          (step (sure new.store.keep now) more.world more.shows more.jobs),
    )

pub blames-more : (xs ys : List Reply) (n : ℕ) → blames xs ≡ n → blames ys ≡ 0 → blames (xs ++ ys) ≡ n
blames-more xs ys n is none = let k = blames-append xs ys in omega (arith, k, is, none)
