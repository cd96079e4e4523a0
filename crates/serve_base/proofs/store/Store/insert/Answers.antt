use Rattle.std.proofs.Common.{rules, ◌∙◌, ap, ◌++◌, ◌∷◌, [], false, Some, arith}
use Rattle.find.specs.Marks.{mark_of}
use Rattle.serve_base.proofs.Storing.{has-failed, has-inserted, has-taken, on_err}
use Rattle.serve_base.proofs.store.Store.insert.Goals as goal

pub returns-in_err-reserve-clause-wrote : goal.returns-in_err-reserve-clause-wrote
returns-in_err-reserve-clause-wrote g c = record {
  leaves = search rules;
  same = λ k h.
      let t = has-taken _ c.self.inside.keep c.self.inside.listed.items c.compact.new.listed.items k c.compact.ensures
      (rw (← c.self.view_is) at h) in
      on_err c.from_residual.result (has-failed _ _ _ k (omega arith) t t.held c.reserve.ensures.items);
  leaves_or = search rules;
  steady = search rules;
  counts = search rules;
  cause = search rules;
}

pub returns-in_err-id-clause-wrote : goal.returns-in_err-id-clause-wrote
returns-in_err-id-clause-wrote g c = record {
  leaves = search rules;
  same = λ k h.
      let t = has-taken _ c.self.inside.keep c.self.inside.listed.items c.compact.new.listed.items k c.compact.ensures
      (rw (← c.self.view_is) at h) in
      on_err c.from_residual-in_err-id.result
      (has-failed _ _ _ k c.insert.ensures.counts.doubt t (c.in_err-id.ensures.err.held k t.held) c.reserve.ensures.items);
  leaves_or = search rules;
  steady = search rules;
  counts = search rules;
  cause = search rules;
}

pub returns-clause-has : goal.returns-clause-has
returns-clause-has g c = λ sure k h.
    let t = has-taken _ c.self.inside.keep c.self.inside.listed.items c.compact.new.listed.items k c.compact.ensures
    (rw (← c.self.view_is) at h) in
    has-inserted _ _ _ k c.insert.ensures.counts.doubt c.args.object.now c.in_ok-id.id c.requires t
    (c.in_ok-id.ensures.id sure k t.held) (c.in_ok-id.ensures.ok.held k t.held)
    (c.push_reserved.ensures.items
    ∙ ap (λ m. c.reserve.new.self.items ++ record { id = c.in_ok-id.id; mark = Some m; removed = false }
    ∷ []) c.of.ensures.value ∙ ap
    (λ xs. xs ++ record { id = c.in_ok-id.id; mark = Some (mark_of c.args.object.now); removed = false } ∷ []) c.reserve.ensures.items)

pub returns-clause-wrote : goal.returns-clause-wrote
returns-clause-wrote g c = record {
  leaves = λ k h left may.
      let t = rw (← c.self.view_is) at h in
      c.in_ok-id.ensures.ok.crash k left t.held may;
  same = search rules;
  leaves_or = search rules;
  steady = search rules;
  counts = search rules;
  cause = search rules;
}
