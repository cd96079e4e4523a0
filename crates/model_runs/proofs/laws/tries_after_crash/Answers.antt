use Rattle.model_runs.proofs.Lives.{tries-kept, tries-few}
use Rattle.model_runs.proofs.laws.tries_after_crash.Goals as goal

pub returns : goal.returns
returns c = record { kept = tries-kept; ten = tries-few }
