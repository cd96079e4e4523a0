use Rattle.std.proofs.Common.{OnErr, OnOk, subst}
use Rattle.keep.specs.Contents.{with_record}
use Rattle.keep.specs.Keeping.{Changes, Fails}
use Rattle.cache.specs.CachedState.{CachedState, cached_terms}
use Rattle.cache.proofs.Following.{on_err_fails, on_ok_changes}
use Rattle.cache.proofs.cached.CachedKeep.set_record.Goals as goal

pub returns-clause-ok : goal.returns-clause-ok
returns-clause-ok g c =
    let new : CachedState g.row.K.Denot = record { keep = c.set_record.new.self; entries = c.self.inside.entries.entries } in
    subst (λ k. OnOk c.set_record.result (Changes (cached_terms g.K.Keep.terms) k new (with_record c.args.token_record))) c.self.view_is
    (on_ok_changes g.K.Keep.terms _ new c.set_record.ensures.counts.doubt c.set_record.result (with_record c.args.token_record)
    (λ d h sure agree. agree) c.set_record.ensures.ok)

pub returns-clause-err : goal.returns-clause-err
returns-clause-err g c =
    let new : CachedState g.row.K.Denot = record { keep = c.set_record.new.self; entries = c.self.inside.entries.entries } in
    subst (λ k. OnErr c.set_record.result (Fails (cached_terms g.K.Keep.terms) k new (with_record c.args.token_record))) c.self.view_is
    (on_err_fails g.K.Keep.terms _ new c.set_record.ensures.counts.doubt c.set_record.result (with_record c.args.token_record)
    (λ d h sure agree. agree) c.set_record.ensures.err)
