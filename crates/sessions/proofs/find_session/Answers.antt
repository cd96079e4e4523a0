use Rattle.std.proofs.Common.{eqb, rules, tests}
use Rattle.std.proofs.lemmas.Iterator.Consumers.{YieldsList-from_first}
use Rattle.std.proofs.lemmas.Iterator.Search.{find_from_yields_List}
use Rattle.slab.specs.Slab.{entries}
use Rattle.sessions.proofs.find_session.Goals as goal

pub returns : goal.returns
returns g c = find_from_yields_List (λ e. eqb e.1.handle c.args.handle) _ _ c.find.result c.find.ensures.ran
    (YieldsList-from_first (λ item. (item.0, item.1.now)) (λ rest. rest) (entries c.args.sessions.now) c.iter.ensures.rest)
    (λ x b q k. search (rules, tests))
