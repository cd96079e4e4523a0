use Rattle.model_runs.proofs.Lives.{life-begins, ten-over}
use Rattle.model_runs.proofs.laws.ten_tries_over_lives.Goals as goal

pub returns : goal.returns
returns c = record { begins = life-begins; ten = ten-over }
