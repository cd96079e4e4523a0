use Rattle.model_answers.proofs.Standing.{refuses-alone, fails-alone}
use Rattle.model_answers.proofs.laws.refused_answers.Goals as goal

pub returns : goal.returns
returns c = record { calls = refuses-alone; results = fails-alone }
