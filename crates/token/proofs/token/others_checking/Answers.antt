use Rattle.std.proofs.Common.{◌∙◌}
use Rattle.model_runs.proofs.Seats.{others-counted}
use Rattle.token.proofs.token.others_checking.Goals as goal

pub returns : goal.returns
returns c = c.count_others.ensures ∙ others-counted c.args.checks.now c.args.app c.args.who
