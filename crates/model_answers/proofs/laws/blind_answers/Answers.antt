use Rattle.model_answers.proofs.Proper.{shown-answer, shown-result}
use Rattle.model_answers.proofs.laws.blind_answers.Goals as goal

pub returns : goal.returns
returns c = record { calls = shown-answer; results = shown-result }
