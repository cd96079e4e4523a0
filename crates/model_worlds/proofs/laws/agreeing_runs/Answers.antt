use Rattle.model_worlds.proofs.RunLaws.{agreeing-replies, agreeing-views}
use Rattle.model_worlds.proofs.laws.agreeing_runs.Goals as goal

pub returns : goal.returns
returns c = record { replies = agreeing-replies; views = agreeing-views }
