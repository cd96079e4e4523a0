use Rattle.std.proofs.Common.{refl, rules}
use Rattle.keep.specs.Contents.{after_reset}
use Rattle.serve_base.specs.Shown.{view_of}
use Rattle.serve_base.proofs.Gaves.{gave-change}
use Rattle.serve_base.proofs.Plain.{plain-fault}
use Rattle.serve_base.proofs.Refusals.{does-refused, device-of, fault-of}
use Rattle.model_session_answers.specs.Pins.{resets}
use Rattle.serve_sessions.proofs.Charging.{gives-reset, refused-reset}
use Rattle.serve_sessions.proofs.pin_checks.reset_to.Goals as goal

pub returns : goal.returns
returns g c = record {
  serves = λ sure k h fits.
      let r = c.args.«record» in
      gave-change _ _ _ k _ _ _ _ (after_reset r k) (c.in_ok-reset.ensures.has k h) (c.in_ok-reset.ensures.wrote.leaves k h)
      (gives-reset k c.args.desk.now r fits);
  counts = c.reset.ensures.wrote.counts;
  cause = search rules;
  plain = refl;
  stays = tt;
  refused = λ is. absurd cc;
  short = search rules;
}

pub returns-in_err-reset : goal.returns-in_err-reset
returns-in_err-reset g c = record {
  serves = λ sure k h fits.
      let r = c.args.«record» in
      let d = c.args.desk.now in
      let a = resets r (view_of k d) in
      does-refused _ a k _ _ d d c.from_residual.result (fault-of c.from_residual.result _ c.from_residual.ensures.1)
      (λ device steady. absurd (c.reset.ensures.wrote.steady steady
      (device-of c.in_err-reset.field-0.0 c.in_err-reset.was c.reset.ensures.wrote.cause c.from_residual.result
      c.from_residual.ensures.1 device)))
      (refused-reset _ a k _ _ d r refl (c.in_err-reset.ensures.wrote.same k h) (c.in_err-reset.ensures.wrote.leaves_or k h));
  counts = c.reset.ensures.wrote.counts;
  cause = search rules;
  plain = plain-fault c.from_residual.result (fault-of c.from_residual.result _ c.from_residual.ensures.1);
  stays = search rules;
  refused = search rules;
  short = search rules;
}
