use Rattle.std.proofs.Common.{rules, arith, sym, ◌∙◌}
use Rattle.serve_base.specs.Shown.{view_of}
use Rattle.model_answers.proofs.Templates.{fault-plain}
use Rattle.serve_base.proofs.Plain.{plain-made}
use Rattle.serve_base.proofs.Refusals.{does-is}
use Rattle.serve_base.proofs.InSession.{in_session}
use Rattle.templates.proofs.Results.{made-object}
use Rattle.serve_keys.proofs.Generating.{asked-len, generate-is}
use Rattle.serve_keys.proofs.generate_key.generate.Goals as goal

pub generated-requires : goal.generated-requires
generated-requires g c =
    let taken = c.requires.random in
    let asked = asked-len c.args.template.now in
    omega (arith, taken, asked)

pub returns : goal.returns
returns g c = record {
  serves = λ sure k h fits.
      let d = c.args.desk.now in
      let s = in_session _ _ c.state.result _ c.state.ensures c.in_ok-state.ensures.ok_part in
      let made = made-object _ _ c.in_ok-object.object c.in_ok-object.ensures in
      does-is _ _ _ k _ _ d c.add_object.new.desk c.add_object.result
      (generate-is (view_of k d) c.args.session c.args.mechanism.now c.args.template.now s.0 s.1 c.in_ok-generation.generation
      (sym c.find_for.ensures ∙ c.in_ok-generation.ensures.ok_part)
      (sym c.has_parameter.ensures ∙ c.if-has_parameter.false) c.args.random.now c.in_ok-object.object (rw s.2 made.0) made.1)
      (rw s.2 (c.add_object.ensures.serves sure k h fits));
  counts = search rules;
  cause = search rules;
  plain = c.add_object.ensures.plain;
  stays = c.add_object.ensures.stays;
  refused = c.add_object.ensures.refused;
  short = search rules;
}

pub returns-in_err-object : goal.returns-in_err-object
returns-in_err-object g c =
    let plain = plain-made c.from_residual-in_err-object.result c.in_err-object.field-0.0 _ _
    c.from_residual-in_err-object.ensures.1 c.in_err-object.ensures (fault-plain _ _ _ _) in
    search (rules, plain)
