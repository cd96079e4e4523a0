use Rattle.model_worlds.proofs.RunLaws.{quiet-replies, quiet-run-views}
use Rattle.model_worlds.proofs.laws.quiet_run.Goals as goal

pub returns : goal.returns
returns c = record { replies = quiet-replies; views = quiet-run-views }
