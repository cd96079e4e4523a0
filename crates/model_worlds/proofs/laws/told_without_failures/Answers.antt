use Rattle.model_worlds.proofs.Told.{is_told, no-failure-trace}
use Rattle.model_worlds.proofs.laws.told_without_failures.Goals as goal

pub returns : goal.returns
returns c = record { none = no-failure-trace; told = λ app w ms none. is_told app w ms }
