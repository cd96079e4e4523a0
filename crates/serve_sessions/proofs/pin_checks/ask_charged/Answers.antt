use Rattle.std.proofs.Common.{refl, rules}
use Rattle.pin_record.specs.Records.{charged}
use Rattle.keep.specs.Contents.{with_record}
use Rattle.serve_base.specs.Shown.{view_of, said_of, task_of}
use Rattle.serve_base.proofs.Gaves.{gave-change}
use Rattle.serve_base.proofs.Plain.{plain_as-fault}
use Rattle.serve_base.proofs.Refusals.{does_as-refused, device-of, fault-of}
use Rattle.serve_sessions.specs.Recording.{asks_charged}
use Rattle.serve_sessions.proofs.Charging.{gives-charged, refused-recorded}
use Rattle.serve_sessions.proofs.pin_checks.ask_charged.Goals as goal

pub returns-clause-done : goal.returns-clause-done
returns-clause-done g c = record {
  serves = λ sure k h fits.
      let r = c.args.«record» in
      rw c.ask.ensures (gave-change _ _ _ k _ _ _ _ (with_record (charged r c.args.who) k)
      (rw c.begin_check.ensures at (c.in_ok-set_record.ensures.has k h))
      (rw c.begin_check.ensures at (c.in_ok-set_record.ensures.wrote.leaves k h))
      (gives-charged k c.args.desk.now r c.args.function c.args.session
      (task_of c.args.work) c.args.who c.in_ok-job.job c.in_ok-job.ensures.question fits));
  counts = search rules;
  cause = search rules;
  plain = refl;
  stays = tt;
  refused = λ is. absurd cc;
  short = c.in_ok-job.ensures.short;
}

pub returns-in_err-set_record-clause-done : goal.returns-in_err-set_record-clause-done
returns-in_err-set_record-clause-done g c = record {
  serves = λ sure k h fits.
      let r = c.args.«record» in
      let d = c.args.desk.now in
      let a = asks_charged r (view_of k d) c.args.function c.args.session (task_of c.args.work) c.args.who in
      does_as-refused _ said_of a k _ _ d d c.from_residual-in_err-set_record.result
      (fault-of c.from_residual-in_err-set_record.result _ c.from_residual-in_err-set_record.ensures.1)
      (λ device steady. absurd (c.set_record.ensures.wrote.steady steady
      (device-of c.in_err-set_record.field-0.0 c.in_err-set_record.was c.set_record.ensures.wrote.cause
      c.from_residual-in_err-set_record.result c.from_residual-in_err-set_record.ensures.1 device)))
      (refused-recorded _ a k _ _ d (charged r c.args.who) refl (c.in_err-set_record.ensures.wrote.same k h)
      (rw c.begin_check.ensures at (c.in_err-set_record.ensures.wrote.leaves_or k h)));
  counts = search rules;
  cause = search rules;
  plain = plain_as-fault said_of c.from_residual-in_err-set_record.result
      (fault-of c.from_residual-in_err-set_record.result _ c.from_residual-in_err-set_record.ensures.1);
  stays = search rules;
  refused = search rules;
  short = search rules;
}
