use Rattle.std.proofs.Common.{ℕ, List, Contains, OnErr, subst}
use Rattle.ck_types.specs.declared.entry.Entry.{Entry}
use Rattle.lru.specs.LruCache.{LruCache}
use Rattle.lru.proofs.Splits.{Contains-nil}
use Rattle.keep.specs.Contents.{after_reset}
use Rattle.keep.specs.Keeping.{Changes, Fails}
use Rattle.cache.specs.CachedState.{CachedState, cached_terms}
use Rattle.cache.proofs.Following.{changes, on_err_fails_now}
use Rattle.cache.proofs.cached.CachedKeep.reset.Goals as goal

pub returns-in_err-reset-clause-err : goal.returns-in_err-reset-clause-err
returns-in_err-reset-clause-err g c =
    let new : CachedState g.row.K.Denot = record { keep = c.reset.new.self; entries = c.self.inside.entries.entries } in
    let step = after_reset c.args.token_record in
    subst (λ k. OnErr c.from_residual.result (Fails (cached_terms g.K.Keep.terms) k new step)) c.self.view_is
    (on_err_fails_now g.K.Keep.terms _ new c.reset.ensures.counts.doubt c.from_residual.result step
    (λ d h sure agree. agree) c.in_err-reset.ensures.err)

pub returns-clause-ok : goal.returns-clause-ok
returns-clause-ok g c =
    let new : CachedState g.row.K.Denot = record { keep = c.reset.new.self; entries = c.clear.new.self.entries } in
    let step = after_reset c.args.token_record in
    subst (λ k. Changes (cached_terms g.K.Keep.terms) k new step) c.self.view_is
    (changes g.K.Keep.terms _ new c.reset.ensures.counts.doubt step
    (λ d h sure agree id object there. absurd
    (Contains-nil (id, object) (subst (λ (x : LruCache ℕ (List Entry)). Contains x.entries (id, object)) c.clear.ensures there)))
    c.in_ok-reset.ensures.ok)
