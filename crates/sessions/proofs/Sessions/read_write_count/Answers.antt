use Rattle.std.proofs.Common.{◌∙◌, rules, tests}
use Rattle.std.proofs.lemmas.Iterator.Consumers.{YieldsList-from_first, YieldsList-from_filter, count_from_yields_List}
use Rattle.slab.specs.Slab.{entries}
use Rattle.sessions.proofs.ChangeLemmas.{count-in_order}
use Rattle.sessions.proofs.Sessions.read_write_count.Goals as goal

pub returns : goal.returns
returns g c =
    let counted = count_from_yields_List c.filter.result c.count.result c.count.ensures.ran
    (YieldsList-from_filter _ (λ e. e.1.read_write)
    (YieldsList-from_first (λ item. (item.0, item.1.now)) (λ rest. rest) (entries c.self.inside.sessions)
    (c.filter.ensures.source ∙ c.iter.ensures.rest)) c.filter.ensures.closure (λ x b q k. search (rules, tests))) in
    rw (← c.self.view_is) (counted ∙ count-in_order (λ s. s.handle) (λ s. s.read_write) 0 c.self.inside.sessions.slots)
