use Rattle.std.proofs.Common.{rules}
use Rattle.keep.specs.Contents.{after_reset}
use Rattle.serve_base.specs.Stores.{LeavesOr}
use Rattle.serve_base.proofs.Storing.{has-reset, on_err}
use Rattle.serve_base.proofs.store.Store.reset.Goals as goal

pub returns-in_err-reset-clause-wrote : goal.returns-in_err-reset-clause-wrote
returns-in_err-reset-clause-wrote g c = record {
  leaves = search rules;
  same = search rules;
  leaves_or = λ k h.
      rw (← c.self.view_is) (
      let t = rw (← c.self.view_is) at h in
      let p : LeavesOr g.K.Keep.terms (record { keep = c.self.inside.keep; listed = c.self.inside.listed.items })
      (record { keep = c.reset.new.self; listed = c.self.inside.listed.items }) (after_reset c.args.token_record k) =
      (λ d may. c.in_err-reset.ensures.err.crash k d t.held may) in
      on_err c.from_residual.result p);
  steady = search rules;
  counts = search rules;
  cause = search rules;
}

pub returns-clause-has : goal.returns-clause-has
returns-clause-has g c = λ k h.
    let t = rw (← c.self.view_is) at h in
    has-reset _ _ k c.args.token_record (c.in_ok-reset.ensures.ok.held k t.held) c.clear.ensures.items

pub returns-clause-wrote : goal.returns-clause-wrote
returns-clause-wrote g c = record {
  leaves = λ k h left may.
      let t = rw (← c.self.view_is) at h in
      c.in_ok-reset.ensures.ok.crash k left t.held may;
  same = search rules;
  leaves_or = search rules;
  steady = search rules;
  counts = search rules;
  cause = search rules;
}
