use Rattle.std.proofs.Common.{sym, ◌∙◌}
use Rattle.token.proofs.Revealing.{no-pin}
use Rattle.token.proofs.token.others_for.Goals as goal

pub returns-then-not-was_on_pin : goal.returns-then-not-was_on_pin
returns-then-not-was_on_pin c = no-pin c.args.done.now.job.value _ _ _ _ (sym c.was_on_pin.ensures ∙ c.if-not-was_on_pin.true)
