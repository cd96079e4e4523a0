-- What the definitions above the token cite of its states and runs.
pub use Rattle.model_runs.specs.Applications.{
  HasJobs,
  IsOpen,
  Shows,
  ShowsAfter,
  TakesJob,
  TokenState,
  asked_by,
  jobs_of,
  move_of,
  moved,
  opening,
}
pub use Rattle.model_runs.specs.Runs.{
  AccountsFor,
  HasIds,
  IsRun,
  IsStep,
  Lasting,
  LeavesBy,
  LeftAfter,
  LeftBy,
  MayLeave,
  blames,
  call_change,
}
