-- What is known of a machine: of its store, of the world that it refines, and of what a crash may leave.
use Rattle.std.specs.Prelude.{ℕ, Option}
use Rattle.keep.specs.Keeping.{Terms}
use Rattle.model_worlds.specs.Worlds.{World}
use Rattle.token.specs.States.{Lasting, MayLeave, Shows, TokenState}
use Rattle.hall.specs.SpareIds.{HasSpareIds}

pub record MachineTerms (T : Type 0) : Type 1 where
  -- 0 as long as its store has returned what was written
  pub doubt : T → ℕ
  -- how often its store has failed
  pub failures : T → ℕ
  -- it refines this world
  pub shows : T → World → Type 0
  -- a crash may leave this of it
  pub leaves : T → Option Lasting → Type 0
  -- It refines this world, and its store is steady: it fails only where every id was given. It has an id for each of so many objects to
  -- come.
  pub spare : T → World → ℕ → Type 0

-- of the token
abbrev pub token_terms : {K : Type 0} → Terms K → MachineTerms (TokenState K)
token_terms terms = record {
  doubt = λ t. terms.doubt t.store.keep;
  failures = λ t. terms.failures t.store.keep;
  shows = λ t w. Shows terms t w;
  leaves = λ t left. MayLeave terms t left;
  spare = λ t w count. HasSpareIds terms t w count;
}
