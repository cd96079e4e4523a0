use Rattle.std.proofs.Common.{sym, ◌∙◌}
use Rattle.lists.proofs.InOrderLemmas.{length-in_order}
use Rattle.sessions.proofs.Sessions.count.Goals as goal

pub returns-clause-count : goal.returns-clause-count
returns-clause-count g c = rw (← c.self.view_is) (c.len.ensures ∙ sym (length-in_order (λ s. s.handle) c.self.inside.sessions.slots))
