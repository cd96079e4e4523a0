use Rattle.std.proofs.Common.{rules, refl, subst, inl, inr}
use Rattle.keep.specs.Contents.{with_replacement}
use Rattle.serve_base.specs.Found.{IsObjectAt}
use Rattle.model_views.specs.Answering.{Answer, index_of}
use Rattle.model_answers.specs.SetAttributeValue.{puts_object}
use Rattle.serve_base.specs.Shown.{view_of}
use Rattle.serve_base.proofs.Gaves.{gave-change, gave-quiet}
use Rattle.serve_base.proofs.Plain.{plain-fault}
use Rattle.serve_base.proofs.Refusals.{does-refused, device-of, fault-of}
use Rattle.serve_objects.proofs.Setting.{gives-put, gives-put_own, stays-own}
use Rattle.serve_objects.proofs.set_attribute_value.put.Goals as goal

pub returns-in_ok-replace-in-Some : goal.returns-in_ok-replace-in-Some
returns-in_ok-replace-in-Some g c = record {
  serves = λ sure k h fits found.
      let old = found.0 in
      let public = found.1 in
      let at = found.2 in
      let d = c.args.desk.now in
      let there = subst (λ i. IsObjectAt k d c.args.handle old i) c.in-Some.is at in
      gave-change _ _ _ k _ _ _ _ (with_replacement c.in-Some.id c.args.object k)
      (c.in_ok-replace-in-Some.ensures.has k h) (c.in_ok-replace-in-Some.ensures.wrote.leaves k h)
      (gives-put k d _ c.args.handle c.requires.table old c.args.object c.in-Some.id public there h.sound fits);
  counts = search rules;
  cause = search rules;
  plain = search rules;
  stays = search rules;
  refused = search rules;
  short = search rules;
}

pub returns-in-None : goal.returns-in-None
returns-in-None g c = record {
  serves = λ sure k h fits found.
      let old = found.0 in
      let public = found.1 in
      let at = found.2 in
      let d = c.args.desk.now in
      let none = subst (λ i. IsObjectAt k d c.args.handle old i) c.in-None.is at in
      rw c.replace_own.ensures (gave-quiet _ _ _ k _ _ _ _ h (λ d may. may)
      (stays-own k d _ c.args.handle c.requires.table old c.args.object none)
      (gives-put_own k d _ c.args.handle c.requires.table old c.args.object none fits));
  counts = search rules;
  cause = search rules;
  plain = search rules;
  stays = search rules;
  refused = search rules;
  short = search rules;
}

pub returns-in_err-replace-in-Some : goal.returns-in_err-replace-in-Some
returns-in_err-replace-in-Some g c = record {
  serves = λ sure k h fits found.
      let old = found.0 in
      let public = found.1 in
      let at = found.2 in
      let d = c.args.desk.now in
      let there = subst (λ i. IsObjectAt k d c.args.handle old i) c.in-Some.is at in
      let put = gives-put k d _ c.args.handle c.requires.table old c.args.object c.in-Some.id public there h.sound fits in
      let v = view_of k d in
      let a : Answer = puts_object v c.args.handle c.args.object (index_of v.tokens c.args.handle) in
      does-refused _ a k _ _ d d c.from_residual.result (fault-of c.from_residual.result _ c.from_residual.ensures.1)
      (λ device steady. let none = c.replace.ensures.wrote.steady steady
      (device-of c.in_err-replace-in-Some.field-0.0 c.in_err-replace-in-Some.was c.replace.ensures.wrote.cause c.from_residual.result
      c.from_residual.ensures.1 device) k h in let found = there.1 in cc) (record {
        has = c.in_err-replace-in-Some.ensures.wrote.same k h;
        same = refl;
        leaves = λ x may. elim (c.in_err-replace-in-Some.ensures.wrote.leaves_or k h x may) [
          | inl before ↦ inl before
          | inr is ↦ inr (_, is, put.changes)
        ];
      });
  counts = search rules;
  cause = search rules;
  plain = plain-fault c.from_residual.result (fault-of c.from_residual.result _ c.from_residual.ensures.1);
  stays = search rules;
  refused = search rules;
  short = search rules;
}
