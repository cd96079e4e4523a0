use Rattle.std.proofs.Common.{not, ◌∙◌, rules, tests}
use Rattle.std.proofs.lemmas.Iterator.Consumers.{YieldsList-from_first}
use Rattle.std.proofs.lemmas.Iterator.Search.{any_from_yields_List}
use Rattle.slab.specs.Slab.{entries}
use Rattle.sessions.proofs.ChangeLemmas.{any-in_order}
use Rattle.sessions.proofs.Sessions.has_read_only.Goals as goal

pub returns : goal.returns
returns g c =
    let found = any_from_yields_List (λ e. not e.1.read_write) _ _ c.any.result c.any.ensures.ran
    (YieldsList-from_first (λ item. (item.0, item.1.now)) (λ rest. rest) (entries c.self.inside.sessions) c.iter.ensures.rest)
    (λ x b q k. search (rules, tests)) in
    rw (← c.self.view_is) (found ∙ any-in_order (λ s. s.handle) (λ s. not s.read_write) 0 c.self.inside.sessions.slots)
