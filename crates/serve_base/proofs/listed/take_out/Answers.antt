use Rattle.std.proofs.Common.{not, rules}
use Rattle.std.proofs.lemmas.Fn.{filter_same}
use Rattle.serve_base.proofs.listed.take_out.Goals as goal

pub returns : goal.returns
returns c = filter_same _ (λ e. not e.removed) _ (λ e keep next called. search rules) _ _ c.retain.ensures.filtered
