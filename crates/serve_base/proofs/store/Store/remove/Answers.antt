use Rattle.std.proofs.Common.{rules}
use Rattle.keep.specs.Contents.{without_object}
use Rattle.serve_base.specs.Stores.{LeavesOr}
use Rattle.serve_base.proofs.Storing.{has-removed, has-rising, on_err}
use Rattle.serve_base.proofs.store.Store.remove.Goals as goal

pub returns-in_err-remove-clause-wrote : goal.returns-in_err-remove-clause-wrote
returns-in_err-remove-clause-wrote g c = record {
  leaves = search rules;
  same = search rules;
  leaves_or = λ k h.
      rw (← c.self.view_is) (
      let t = rw (← c.self.view_is) at h in
      let p : LeavesOr g.K.Keep.terms (record { keep = c.self.inside.keep; listed = c.self.inside.listed.items })
      (record { keep = c.remove.new.self; listed = c.self.inside.listed.items }) (without_object c.args.id k) =
      (λ d may. c.in_err-remove.ensures.err.crash k d t.held may) in
      on_err c.from_residual.result p);
  steady = search rules;
  counts = search rules;
  cause = search rules;
}

pub returns-clause-has : goal.returns-clause-has
returns-clause-has g c = λ k h.
    let t = rw (← c.self.view_is) at h in
    has-removed _ _ _ k c.remove.ensures.counts.doubt c.args.id t (c.in_ok-remove.ensures.ok.held k t.held)
    (c.remove_id.ensures (has-rising _ _ k t))

pub returns-clause-wrote : goal.returns-clause-wrote
returns-clause-wrote g c = record {
  leaves = λ k h left may.
      let t = rw (← c.self.view_is) at h in
      c.in_ok-remove.ensures.ok.crash k left t.held may;
  same = search rules;
  leaves_or = search rules;
  steady = search rules;
  counts = search rules;
  cause = search rules;
}
