use Rattle.std.proofs.Common.{rules, refl}
use Rattle.keep.specs.Contents.{with_record}
use Rattle.serve_base.specs.Stores.{LeavesOr}
use Rattle.serve_base.proofs.Storing.{has-recorded, on_err}
use Rattle.serve_base.proofs.store.Store.set_record.Goals as goal

pub returns-in_err-set_record-clause-wrote : goal.returns-in_err-set_record-clause-wrote
returns-in_err-set_record-clause-wrote g c = record {
  leaves = search rules;
  same = search rules;
  leaves_or = λ k h.
      rw (← c.self.view_is) (
      let t = rw (← c.self.view_is) at h in
      let p : LeavesOr g.K.Keep.terms (record { keep = c.self.inside.keep; listed = c.self.inside.listed.items })
      (record { keep = c.set_record.new.self; listed = c.self.inside.listed.items }) (with_record c.args.token_record k) =
      (λ d may. c.in_err-set_record.ensures.err.crash k d t.held may) in
      on_err c.from_residual.result p);
  steady = search rules;
  counts = search rules;
  cause = search rules;
}

pub returns-clause-has : goal.returns-clause-has
returns-clause-has g c = λ k h.
    let t = rw (← c.self.view_is) at h in
    has-recorded _ _ _ k c.set_record.ensures.counts.doubt c.args.token_record t (c.in_ok-set_record.ensures.ok.held k t.held) refl

pub returns-clause-wrote : goal.returns-clause-wrote
returns-clause-wrote g c = record {
  leaves = λ k h left may.
      let t = rw (← c.self.view_is) at h in
      c.in_ok-set_record.ensures.ok.crash k left t.held may;
  same = search rules;
  leaves_or = search rules;
  steady = search rules;
  counts = search rules;
  cause = search rules;
}
