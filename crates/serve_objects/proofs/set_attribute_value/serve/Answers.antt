use Rattle.std.proofs.Common.{◌≡◌, rules, not, arith, sym, ◌∙◌, ap, subst}
use Rattle.std.specs.Prelude.{◌&&◌}
use Rattle.guard.specs.Access.{is_rw}
use Rattle.serve_base.specs.Found.{IsFound}
use Rattle.serve_base.specs.Shown.{view_of}
use Rattle.model_answers.proofs.Templates.{fault-plain}
use Rattle.serve_base.proofs.Plain.{plain-made}
use Rattle.serve_base.proofs.Refusals.{does-is, does-after}
use Rattle.serve_base.proofs.InSession.{in_session}
use Rattle.serve_base.proofs.Storing.{has-still}
use Rattle.templates.proofs.Results.{made-object}
use Rattle.serve_objects.proofs.Making.{set-is}
use Rattle.serve_objects.proofs.set_attribute_value.serve.Goals as goal

pub returns : goal.returns
returns g c = record {
  serves = λ sure k h fits.
      let d = c.args.desk.now in
      let clean : g.K.Keep.terms.doubt c.object_by_handle.new.store.keep ≡ 0 = omega (arith, c.put.ensures.counts.doubt, sure) in
      let found = subst (λ x. IsFound k d c.args.handle x) c.in_ok-found.ensures.ok_part (c.in_ok-object_by_handle.ensures.found clean k h fits) in
      let held = has-still _ _ _ k c.object_by_handle.ensures.same c.object_by_handle.ensures.ids h in
      let s = in_session _ _ c.state.result _ c.state.ensures c.in_ok-state.ensures.ok_part in
      let o = c.in_ok-found.found.object in
      let test = ap (λ b. c.flag.result && not b) (sym c.is_read_write.ensures) ∙ sym c.needs_read_write.ensures
      ∙ c.if-needs_read_write.false in
      let writable = ap (λ b. b && not (is_rw c.in_ok-state.state)) (sym c.flag.ensures) ∙ test in
      let made = made-object _ _ c.in_ok-object.object c.in_ok-object.ensures.made in
      does-is _ _ _ k _ _ d c.put.new.desk c.put.result
      (set-is (view_of k d) c.args.session c.args.template.now s.0 s.1 c.args.handle o found.0 (rw s.2 writable)
      (ap not (sym c.flag-2.ensures ∙ c.if-not-flag.false)) c.in_ok-object.object (rw s.2 made.0) made.1)
      (does-after _ _ k _ c.object_by_handle.new.store _ d c.put.new.desk c.put.result
      (λ left may. c.object_by_handle.ensures.same.crash k left h.held may) c.object_by_handle.ensures.counts.steady
      (c.put.ensures.serves sure k held fits (o, ap not c.in_ok-object.ensures.placed.private, found.1)));
  counts = search rules;
  cause = search rules;
  plain = c.put.ensures.plain;
  stays = c.put.ensures.stays;
  refused = c.put.ensures.refused;
  short = λ _. c.put.ensures.short;
}

pub returns-in_err-object : goal.returns-in_err-object
returns-in_err-object g c =
    let plain = plain-made c.from_residual-in_err-object.result c.in_err-object.field-0.0 _ _
    c.from_residual-in_err-object.ensures.1 c.in_err-object.ensures.made (fault-plain _ _ _ _) in
    search (rules, plain)
