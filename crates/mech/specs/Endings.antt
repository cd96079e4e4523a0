-- What the cell of a job has after it was run.
use Rattle.std.specs.Prelude.{Result, Ok, Err}
use Rattle.mech.specs.declared.outcome.Outcome.{Outcome}
use Rattle.mech.specs.declared.job_cell.JobCell.{JobCell}
use Rattle.mech.specs.declared.job_cell.JobCell.TheVariants as cell
use Rattle.mech.specs.declared.work.Work.{Work}

-- what came of the work, which because an allocation failed is the work itself
abbrev pub ended_as : Result Outcome Work → JobCell
ended_as (Ok o) = cell.Outcome o
ended_as (Err work) = cell.Work work
