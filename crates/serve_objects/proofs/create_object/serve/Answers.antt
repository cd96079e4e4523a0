use Rattle.std.proofs.Common.{rules}
use Rattle.serve_base.specs.Shown.{view_of}
use Rattle.model_answers.proofs.Templates.{fault-plain}
use Rattle.serve_base.proofs.Plain.{plain-made}
use Rattle.serve_base.proofs.Refusals.{does-is}
use Rattle.serve_base.proofs.InSession.{in_session}
use Rattle.templates.proofs.Results.{made-object}
use Rattle.serve_objects.proofs.Making.{create-is}
use Rattle.serve_objects.proofs.create_object.serve.Goals as goal

pub returns : goal.returns
returns g c = record {
  serves = λ sure k h fits.
      let d = c.args.desk.now in
      let s = in_session _ _ c.state.result _ c.state.ensures c.in_ok-state.ensures.ok_part in
      let made = made-object _ _ c.in_ok-object.object c.in_ok-object.ensures in
      does-is _ _ _ k _ _ d c.add_object.new.desk c.add_object.result
      (create-is (view_of k d) c.args.session c.args.template.now s.0 s.1 c.args.random.now c.in_ok-object.object (rw s.2 made.0) made.1)
      (rw s.2 (c.add_object.ensures.serves sure k h fits));
  counts = c.add_object.ensures.counts;
  cause = c.add_object.ensures.cause;
  plain = c.add_object.ensures.plain;
  stays = c.add_object.ensures.stays;
  refused = c.add_object.ensures.refused;
  short = c.add_object.ensures.short;
}

pub returns-in_err-object : goal.returns-in_err-object
returns-in_err-object g c =
    let plain = plain-made c.from_residual-in_err-object.result c.in_err-object.field-0.0 _ _
    c.from_residual-in_err-object.ensures.1 c.in_err-object.ensures (fault-plain _ _ _ _) in
    search (rules, plain)
