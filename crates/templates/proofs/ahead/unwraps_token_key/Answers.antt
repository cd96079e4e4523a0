use Rattle.templates.proofs.NewKey.{unwrapped_token}
use Rattle.templates.proofs.ahead.unwraps_token_key.Goals as goal

pub returns : goal.returns
returns c = λ value random. unwrapped_token c.args.template.now random value c.flag_or.result (rw c.as_slice.ensures at c.flag_or.ensures)
