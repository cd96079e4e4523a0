use Rattle.std.proofs.Common.{OnErr, OnOk, subst}
use Rattle.keep.specs.Contents.{with_object}
use Rattle.keep.specs.Keeping.{Changes, Fails}
use Rattle.cache.specs.CachedState.{CachedState, cached_terms}
use Rattle.cache.proofs.Following.{object_at-with_one_more, on_err_fails, on_ok_changes}
use Rattle.cache.proofs.cached.CachedKeep.insert.Goals as goal

pub returns-clause-ok : goal.returns-clause-ok
returns-clause-ok g c =
    let new : CachedState g.row.K.Denot = record { keep = c.insert.new.self; entries = c.self.inside.entries.entries } in
    subst (λ k. OnOk c.insert.result (Changes (cached_terms g.K.Keep.terms) k new (with_object c.args.object.now))) c.self.view_is
    (on_ok_changes g.K.Keep.terms _ new c.insert.ensures.counts.doubt c.insert.result (with_object c.args.object.now)
    (λ d h sure agree id object there. object_at-with_one_more d c.args.object.now id object (agree id object there)) c.insert.ensures.ok)

pub returns-clause-err : goal.returns-clause-err
returns-clause-err g c =
    let new : CachedState g.row.K.Denot = record { keep = c.insert.new.self; entries = c.self.inside.entries.entries } in
    subst (λ k. OnErr c.insert.result (Fails (cached_terms g.K.Keep.terms) k new (with_object c.args.object.now))) c.self.view_is
    (on_err_fails g.K.Keep.terms _ new c.insert.ensures.counts.doubt c.insert.result (with_object c.args.object.now)
    (λ d h sure agree. agree) c.insert.ensures.err)
