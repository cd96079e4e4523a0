-- What the definitions above the desk cite of jobs.
pub use Rattle.mech.specs.declared.job.Job.{Job}
pub use Rattle.mech.specs.declared.work.Work.{Work}
pub use Rattle.mech.specs.declared.work.Work.TheVariants.{
  Cipher,
  Take,
  Sign,
  Verify,
  Wrap,
  Unwrap,
  CheckPin,
  MakePin,
  ChangePin,
  InitToken,
  ResetToken,
}
pub use Rattle.mech.specs.Rooms.{most_added}
pub use Rattle.mech.specs.Runnable.{is_runnable}
