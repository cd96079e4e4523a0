use Rattle.std.proofs.Common.{rules, refl, subst, inl, inr}
use Rattle.keep.specs.Contents.{without_object}
use Rattle.serve_base.specs.Found.{IsObjectAt}
use Rattle.model_views.specs.Answering.{Answer, index_of}
use Rattle.model_answers.specs.DestroyObject.{destroyed}
use Rattle.serve_base.specs.Shown.{view_of}
use Rattle.serve_base.proofs.Gaves.{gave-change, gave-quiet}
use Rattle.serve_base.proofs.Plain.{plain-fault}
use Rattle.serve_base.proofs.Refusals.{does-refused, device-of, fault-of}
use Rattle.serve_objects.proofs.Destroying.{gives-kept, gives-own, stays-own}
use Rattle.serve_objects.proofs.destroy_object.destroy.Goals as goal

pub returns-in_ok-remove-in-Some : goal.returns-in_ok-remove-in-Some
returns-in_ok-remove-in-Some g c = record {
  serves = λ sure k h fits found.
      let o = found.0 in
      let at = found.1 in
      let there = subst (λ i. IsObjectAt k c.args.desk.now c.args.handle o i) c.in-Some.is at in
      rw c.retire.ensures (gave-change _ _ _ k _ _ _ _ (without_object c.in-Some.id k)
      (c.in_ok-remove-in-Some.ensures.has k h) (c.in_ok-remove-in-Some.ensures.wrote.leaves k h)
      (gives-kept k c.args.desk.now _ c.args.handle c.requires o c.in-Some.id there h.sound fits));
  counts = search rules;
  cause = search rules;
  plain = search rules;
  stays = search rules;
  refused = search rules;
  short = search rules;
}

pub returns-in-None : goal.returns-in-None
returns-in-None g c = record {
  serves = λ sure k h fits found.
      let o = found.0 in
      let at = found.1 in
      let none = subst (λ i. IsObjectAt k c.args.desk.now c.args.handle o i) c.in-None.is at in
      rw c.remove_own.ensures (gave-quiet _ _ _ k _ _ _ _ h (λ d may. may)
      (stays-own k c.args.desk.now _ c.args.handle c.requires o none)
      (gives-own k c.args.desk.now _ c.args.handle c.requires o none fits));
  counts = search rules;
  cause = search rules;
  plain = search rules;
  stays = search rules;
  refused = search rules;
  short = search rules;
}

pub returns-in_err-remove-in-Some : goal.returns-in_err-remove-in-Some
returns-in_err-remove-in-Some g c = record {
  serves = λ sure k h fits found.
      let o = found.0 in
      let at = found.1 in
      let d = c.args.desk.now in
      let there = subst (λ i. IsObjectAt k d c.args.handle o i) c.in-Some.is at in
      let gone = gives-kept k d _ c.args.handle c.requires o c.in-Some.id there h.sound fits in
      let v = view_of k d in
      let a : Answer = destroyed v c.args.handle (index_of v.tokens c.args.handle) in
      does-refused _ a k _ _ d d c.from_residual.result (fault-of c.from_residual.result _ c.from_residual.ensures.1)
      (λ device steady. let none = c.remove.ensures.wrote.steady steady
      (device-of c.in_err-remove-in-Some.field-0.0 c.in_err-remove-in-Some.was c.remove.ensures.wrote.cause c.from_residual.result
      c.from_residual.ensures.1 device) k h in let found = there.1 in cc) (record {
        has = c.in_err-remove-in-Some.ensures.wrote.same k h;
        same = refl;
        leaves = λ x may. elim (c.in_err-remove-in-Some.ensures.wrote.leaves_or k h x may) [
          | inl before ↦ inl before
          | inr is ↦ inr (_, is, gone.changes)
        ];
      });
  counts = search rules;
  cause = search rules;
  plain = plain-fault c.from_residual.result (fault-of c.from_residual.result _ c.from_residual.ensures.1);
  stays = search rules;
  refused = search rules;
  short = search rules;
}
