use Rattle.model_worlds.proofs.Told.{is_told}
use Rattle.model_worlds.proofs.laws.told_by_trace.Goals as goal

pub returns : goal.returns
returns c = is_told
