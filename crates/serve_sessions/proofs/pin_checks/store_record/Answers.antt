use Rattle.std.proofs.Common.{inl, refl, rules}
use Rattle.keep.specs.Contents.{with_record}
use Rattle.serve_base.specs.Shown.{view_of}
use Rattle.serve_base.proofs.Gaves.{gave-change}
use Rattle.serve_base.proofs.Plain.{plain-fault}
use Rattle.serve_base.proofs.Refusals.{does-refused, device-of, fault-of}
use Rattle.serve_sessions.specs.Recording.{codes_with}
use Rattle.serve_sessions.proofs.Charging.{gives-stored, refused-recorded}
use Rattle.serve_sessions.proofs.pin_checks.store_record.Goals as goal

pub returns : goal.returns
returns g c = record {
  serves = λ sure k h fits.
      let r = c.args.«record» in
      gave-change _ _ _ k _ _ _ _ (with_record r k) (c.in_ok-set_record.ensures.has k h) (c.in_ok-set_record.ensures.wrote.leaves k h)
      (gives-stored k c.args.desk.now r c.args.code fits);
  counts = search rules;
  cause = search rules;
  plain = c.requires;
  stays = tt;
  refused = λ is. inl (λ k fits. refl);
  short = search rules;
}

pub returns-in_err-set_record : goal.returns-in_err-set_record
returns-in_err-set_record g c = record {
  serves = λ sure k h fits.
      let r = c.args.«record» in
      let d = c.args.desk.now in
      let a = codes_with c.args.code r (view_of k d) in
      does-refused _ a k _ _ d d c.from_residual.result (fault-of c.from_residual.result _ c.from_residual.ensures.1)
      (λ device steady. absurd (c.set_record.ensures.wrote.steady steady
      (device-of c.in_err-set_record.field-0.0 c.in_err-set_record.was c.set_record.ensures.wrote.cause c.from_residual.result
      c.from_residual.ensures.1 device)))
      (refused-recorded _ a k _ _ d r refl (c.in_err-set_record.ensures.wrote.same k h) (c.in_err-set_record.ensures.wrote.leaves_or k h));
  counts = search rules;
  cause = search rules;
  plain = plain-fault c.from_residual.result (fault-of c.from_residual.result _ c.from_residual.ensures.1);
  stays = search rules;
  refused = search rules;
  short = search rules;
}
