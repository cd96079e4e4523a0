use Rattle.std.proofs.Common.{rules, ◌∙◌, ap, map, subst, sym, arith}
use Rattle.lists.specs.Bisection.{KeysRise}
use Rattle.keep.specs.Contents.{with_replacement}
use Rattle.serve_base.specs.Stores.{LeavesOr}
use Rattle.serve_base.specs.Listing.{id_in, marked_at}
use Rattle.serve_base.proofs.Edits.{written-back}
use Rattle.serve_base.proofs.Storing.{has-replaced, has-rising, on_err}
use Rattle.serve_base.proofs.store.Store.replace.Goals as goal

pub returns-in_err-replace-clause-wrote : goal.returns-in_err-replace-clause-wrote
returns-in_err-replace-clause-wrote g c = record {
  leaves = search rules;
  same = search rules;
  leaves_or = λ k h.
      rw (← c.self.view_is) (
      let t = rw (← c.self.view_is) at h in
      let p : LeavesOr g.K.Keep.terms (record { keep = c.self.inside.keep; listed = c.self.inside.listed.items })
      (record { keep = c.replace.new.self; listed = c.self.inside.listed.items })
      (with_replacement c.args.id c.args.object.now k) = (λ d may. c.in_err-replace.ensures.err.crash k d t.held may) in
      on_err c.from_residual.result p);
  steady = search rules;
  counts = search rules;
  cause = search rules;
}

pub returns-clause-has : goal.returns-clause-has
returns-clause-has g c = λ k h.
    let t = rw (← c.self.view_is) at h in
    let back = written-back c.set_mark.new.listed c.self.inside.listed.items c.self.inside.listed.len
    (omega (arith, c.set_mark.auto.listed, c.deref_mut.ensures.len)) in
    let was = c.deref_mut.ensures.value in
    has-replaced _ _ _ k c.replace.ensures.counts.doubt c.args.object.now c.args.id c.requires t (c.in_ok-replace.ensures.ok.held k t.held)
    (back ∙ c.set_mark.ensures (subst (KeysRise id_in) (sym was) (has-rising _ _ k t))
    ∙ ap (map (marked_at c.args.id c.of.result)) was
    ∙ ap (λ m. map (marked_at c.args.id m) c.self.inside.listed.items) c.of.ensures.value)

pub returns-clause-wrote : goal.returns-clause-wrote
returns-clause-wrote g c = record {
  leaves = λ k h left may.
      let t = rw (← c.self.view_is) at h in
      c.in_ok-replace.ensures.ok.crash k left t.held may;
  same = search rules;
  leaves_or = search rules;
  steady = search rules;
  counts = search rules;
  cause = search rules;
}
