use Rattle.std.proofs.Common.{◌≡◌, rules, not, arith, sym, ◌∙◌, ap, subst}
use Rattle.serve_base.specs.Found.{IsFound}
use Rattle.serve_base.specs.Shown.{view_of}
use Rattle.model_answers.proofs.Templates.{fault-plain}
use Rattle.serve_base.proofs.Plain.{plain-made}
use Rattle.serve_base.proofs.Refusals.{does-is, does-after}
use Rattle.serve_base.proofs.InSession.{in_session}
use Rattle.serve_base.proofs.Storing.{has-still}
use Rattle.templates.proofs.Results.{made-object}
use Rattle.serve_objects.proofs.Making.{copy-is}
use Rattle.serve_objects.proofs.copy_object.serve.Goals as goal

pub returns : goal.returns
returns g c = record {
  serves = λ sure k h fits.
      let d = c.args.desk.now in
      let clean : g.K.Keep.terms.doubt c.object_by_handle.new.store.keep ≡ 0 = omega (arith, c.add_object.ensures.counts.doubt, sure) in
      let found = subst (λ x. IsFound k d c.args.handle x) c.in_ok-found.ensures.ok_part (c.in_ok-object_by_handle.ensures.found clean k h fits) in
      let held = has-still _ _ _ k c.object_by_handle.ensures.same c.object_by_handle.ensures.ids h in
      let s = in_session _ _ c.state.result _ c.state.ensures c.in_ok-state.ensures.ok_part in
      let made = made-object _ _ c.in_ok-object.object c.in_ok-object.ensures.made in
      does-is _ _ _ k _ _ d c.add_object.new.desk c.add_object.result
      (copy-is (view_of k d) c.args.session c.args.template.now s.0 s.1 c.args.handle c.in_ok-found.found.object found.0
      c.args.random.now (ap not (sym c.flag.ensures ∙ c.if-not-flag.false)) c.in_ok-object.object (rw s.2 made.0) made.1)
      (does-after _ _ k _ c.object_by_handle.new.store _ d c.add_object.new.desk c.add_object.result
      (λ left may. c.object_by_handle.ensures.same.crash k left h.held may) c.object_by_handle.ensures.counts.steady
      (rw s.2 (c.add_object.ensures.serves sure k held fits)));
  counts = search rules;
  cause = search rules;
  plain = c.add_object.ensures.plain;
  stays = c.add_object.ensures.stays;
  refused = c.add_object.ensures.refused;
  short = c.add_object.ensures.short;
}

pub returns-in_err-object : goal.returns-in_err-object
returns-in_err-object g c =
    let plain = plain-made c.from_residual-in_err-object.result c.in_err-object.field-0.0 _ _
    c.from_residual-in_err-object.ensures.1 c.in_err-object.ensures.made (fault-plain _ _ _ _) in
    search (rules, plain)
