use Rattle.std.proofs.Common.{OnErr, subst, ◌∙◌}
use Rattle.keep.specs.Contents.{without_object}
use Rattle.keep.specs.Keeping.{Changes, Fails}
use Rattle.keep.specs.ObjectLaws.{object_at-without_object_other}
use Rattle.cache.specs.CachedState.{CachedState, cached_terms}
use Rattle.cache.proofs.Following.{changes, on_err_fails_now}
use Rattle.cache.proofs.cached.CachedKeep.remove.Goals as goal

pub returns-in_err-remove-clause-err : goal.returns-in_err-remove-clause-err
returns-in_err-remove-clause-err g c =
    let new : CachedState g.row.K.Denot = record { keep = c.remove.new.self; entries = c.self.inside.entries.entries } in
    let step = without_object c.args.id in
    subst (λ k. OnErr c.from_residual.result (Fails (cached_terms g.K.Keep.terms) k new step)) c.self.view_is
    (on_err_fails_now g.K.Keep.terms _ new c.remove.ensures.counts.doubt c.from_residual.result step
    (λ d h sure agree. agree) c.in_err-remove.ensures.err)

pub returns-clause-ok : goal.returns-clause-ok
returns-clause-ok g c =
    let new : CachedState g.row.K.Denot = record { keep = c.remove.new.self; entries = c.forget.new.entries.entries } in
    let step = without_object c.args.id in
    subst (λ k. Changes (cached_terms g.K.Keep.terms) k new step) c.self.view_is
    (changes g.K.Keep.terms _ new c.remove.ensures.counts.doubt step
    (λ d h sure agree id object there.
    let was = c.forget.ensures (id, object) there in
    object_at-without_object_other c.args.id id d was.1 ∙ agree id object was.0)
    c.in_ok-remove.ensures.ok)
