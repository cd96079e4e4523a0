use Rattle.model_worlds.proofs.Tries.{sound-start, charges-run, sound-run, ten-run}
use Rattle.model_worlds.proofs.laws.ten_tries.Goals as goal

pub returns : goal.returns
returns c = record { begins = sound-start; goes = charges-run; goes_on = sound-run; ten = ten-run }
