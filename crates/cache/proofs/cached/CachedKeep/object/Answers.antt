use Rattle.std.proofs.Common.{◌≡◌, ◌≤◌, inl, inr, ℕ, List, Some, sym, ap, subst, ◌∙◌, arith}
use Rattle.ck_types.specs.declared.entry.Entry.{Entry}
use Rattle.keep.specs.Contents.{Kept, object_at}
use Rattle.keep.specs.Keeping.{Stays}
use Rattle.cache.specs.CachedState.{CachedState, cached_terms}
use Rattle.cache.proofs.Following.{stays}
use Rattle.cache.proofs.cached.CachedKeep.object.Goals as goal

pub returns-in-Some-clause-object : goal.returns-in-Some-clause-object
returns-in-Some-clause-object g c = λ sure d h.
    let was = subst (λ k. (cached_terms g.K.Keep.terms).holds k d) (sym c.self.view_is) h in
    was.1 sure c.args.id c.in-Some.known c.in-Some.ensures.found

pub returns-in-Some-clause-same : goal.returns-in-Some-clause-same
returns-in-Some-clause-same g c =
    let new : CachedState g.row.K.Denot = record { keep = c.self.inside.keep; entries = c.recall.new.entries.entries } in
    let low : g.K.Keep.terms.doubt c.self.inside.keep ≤ g.K.Keep.terms.doubt c.self.inside.keep = omega arith in
    subst (λ k. Stays (cached_terms g.K.Keep.terms) k new) c.self.view_is
    (stays g.K.Keep.terms _ new low (λ d h sure agree id object there. agree id object (c.recall.ensures.kept (id, object) there))
    (record { held = λ d h. h; crash = λ d left h may. may }))

pub returns-in_err-object-clause-same : goal.returns-in_err-object-clause-same
returns-in_err-object-clause-same g c =
    let new : CachedState g.row.K.Denot = record { keep = c.object.new.self; entries = c.recall.new.entries.entries } in
    subst (λ k. Stays (cached_terms g.K.Keep.terms) k new) c.self.view_is
    (stays g.K.Keep.terms _ new c.object.ensures.counts.doubt
    (λ d h sure agree id object there. agree id object (c.recall.ensures.kept (id, object) there)) c.object.ensures.same)

pub returns-clause-same : goal.returns-clause-same
returns-clause-same g c =
    let new : CachedState g.row.K.Denot = record { keep = c.object.new.self; entries = c.remember.new.entries.entries } in
    subst (λ k. Stays (cached_terms g.K.Keep.terms) k new) c.self.view_is
    (stays g.K.Keep.terms _ new c.object.ensures.counts.doubt
    (λ d h sure agree id object there. elim (c.remember.ensures (id, object) there) [
      | inl was ↦ agree id object (c.recall.ensures.kept (id, object) was)
      | inr is ↦
          let same_id : id ≡ c.args.id = ap (λ (e : Kept). e.0) is in
          let same : object ≡ c.in_ok-object.object = ap (λ (e : Kept). e.1) is in
          ap (λ (n : ℕ). object_at d n) same_id ∙ c.in_ok-object.ensures.object sure d h ∙ ap (λ (o : List Entry). Some o) (sym same)
    ]) c.object.ensures.same)
