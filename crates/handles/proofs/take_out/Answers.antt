use Rattle.std.proofs.Common.{not, ap, length, ◌∙◌, rules}
use Rattle.std.proofs.lemmas.Fn.{filter_same}
use Rattle.handles.proofs.LiveLemmas.{length-taken}
use Rattle.handles.proofs.take_out.Goals as goal

pub returns-clause-left : goal.returns-clause-left
returns-clause-left c = filter_same _ (λ e. not e.retired) _ (λ e keep next called. search rules) _ _ c.retain.ensures.filtered

pub returns-clause-len : goal.returns-clause-len
returns-clause-len c = c.retain.new.self.ok.0 ∙ ap length (returns-clause-left c)
    ∙ length-taken (λ e. e.retired) (λ e. e.handle) c.args.entries.now.items
