use Rattle.std.proofs.Common.{◌≡◌, None, rules}
use Rattle.std.specs.Prelude.{IsErrOf}
use Rattle.keep.specs.Contents.{object_at}
use Rattle.keep.specs.declared.keep.KeepFault.TheVariants.{Device}
use Rattle.serve_base.proofs.Storing.{absent_at, present_at}
use Rattle.serve_base.proofs.store.Store.object.Goals as goal

pub returns-then-not-has_id-clause-object : goal.returns-then-not-has_id-clause-object
returns-then-not-has_id-clause-object g c = λ sure k h.
    let t = rw (← c.self.view_is) at h in
    absent_at _ _ k c.args.id c.has_id.result t
    (λ rise. rw c.deref.ensures.value at (c.has_id.ensures (rw c.deref.ensures.value rise))) c.if-not-has_id.true

pub returns-in_err-object-clause-steady : goal.returns-in_err-object-clause-steady
returns-in_err-object-clause-steady g c = λ steady device k h.
    let t = rw (← c.self.view_is) at h in
    let was = rw (← c.self.view_is) at steady in
    let there : object_at k c.args.id ≡ None → ⊥ =
    present_at _ _ k c.args.id c.has_id.result t
    (λ rise. rw c.deref.ensures.value at (c.has_id.ensures (rw c.deref.ensures.value rise))) c.if-not-has_id.false in
    let never : IsErrOf c.object.result Device → ⊥ = λ e. there (c.object.ensures.steady was e k t.held) in
    search (rules, never)
