-- A token over a list, with the jobs of its pending calls.
use Rattle.std.specs.Prelude.{ℕ, List}
use Rattle.keep.specs.ListState.{ListState, list_terms}
use Rattle.mech.specs.declared.job.Job.{Job}
use Rattle.model_worlds.specs.Worlds.{World}
use Rattle.model_runs.specs.Applications.{HasJobs, Shows, TokenState}

-- the token refines a world whose pending calls have these jobs
abbrev pub IsWaiting : TokenState ListState → List (ℕ × Job) → Type 0
IsWaiting t out = (w : World) × Shows list_terms t w × HasJobs w out
