use Rattle.std.proofs.Common.{subst}
use Rattle.keep.specs.Keeping.{Stays}
use Rattle.cache.specs.CachedState.{CachedState, cached_terms}
use Rattle.cache.proofs.Following.{stays}
use Rattle.cache.proofs.cached.CachedKeep.ids.Goals as goal

pub returns-clause-same : goal.returns-clause-same
returns-clause-same g c =
    let new : CachedState g.row.K.Denot = record { keep = c.ids.new.self; entries = c.self.inside.entries.entries } in
    subst (λ k. Stays (cached_terms g.K.Keep.terms) k new) c.self.view_is
    (stays g.K.Keep.terms _ new c.ids.ensures.counts.doubt (λ d h sure agree. agree) c.ids.ensures.same)
