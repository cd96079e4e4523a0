use Rattle.model_worlds.proofs.RunLaws.{quiet-views}
use Rattle.model_worlds.proofs.laws.quiet_event.Goals as goal

pub returns : goal.returns
returns c = quiet-views
