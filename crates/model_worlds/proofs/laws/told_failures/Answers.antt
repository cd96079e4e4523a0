use Rattle.model_worlds.proofs.Failures.{told-failures}
use Rattle.model_worlds.proofs.laws.told_failures.Goals as goal

pub returns : goal.returns
returns c = told-failures
