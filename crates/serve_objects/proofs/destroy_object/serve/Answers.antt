use Rattle.std.proofs.Common.{◌≡◌, rules, not, arith, sym, ◌∙◌, ap, subst}
use Rattle.std.specs.Prelude.{◌&&◌}
use Rattle.serve_base.specs.Found.{IsFound}
use Rattle.serve_base.specs.Shown.{view_of}
use Rattle.serve_base.proofs.Refusals.{does-is, does-after}
use Rattle.serve_base.proofs.InSession.{in_session}
use Rattle.serve_base.proofs.Storing.{has-still}
use Rattle.serve_objects.proofs.Destroying.{IsFree, destroy-is}
use Rattle.serve_objects.proofs.destroy_object.serve.Goals as goal

pub returns : goal.returns
returns g c = record {
  serves = λ sure k h fits.
      let d = c.args.desk.now in
      let o = c.in_ok-found.found.object in
      let clean : g.K.Keep.terms.doubt c.object_by_handle.new.store.keep ≡ 0 = omega (arith, c.destroy.ensures.counts.doubt, sure) in
      let found = subst (λ x. IsFound k d c.args.handle x) c.in_ok-found.ensures.ok_part (c.in_ok-object_by_handle.ensures.found clean k h fits) in
      let held = has-still _ _ _ k c.object_by_handle.ensures.same c.object_by_handle.ensures.ids h in
      let s = in_session _ _ c.is_read_write.result _ c.is_read_write.ensures c.in_ok-read_write.ensures.ok_part in
      let writable = sym c.needs_read_write.ensures ∙ c.if-needs_read_write.false in
      let free : IsFree o s.0.read_write = (
        ap (λ b. b && not s.0.read_write) (sym c.flag.ensures) ∙ ap (λ b. c.flag.result && not b) s.2
            ∙ writable,
        ap not (sym c.flag-2.ensures ∙ c.if-not-flag.false),
      ) in
      does-is _ _ _ k _ _ d c.destroy.new.desk c.destroy.result
      (destroy-is (view_of k d) c.args.session c.args.handle s.0 o s.1 found.0 free)
      (does-after _ _ k _ c.object_by_handle.new.store _ d c.destroy.new.desk c.destroy.result
      (λ left may. c.object_by_handle.ensures.same.crash k left h.held may) c.object_by_handle.ensures.counts.steady
      (c.destroy.ensures.serves sure k held fits (o, found.1)));
  counts = search rules;
  cause = search rules;
  plain = c.destroy.ensures.plain;
  stays = c.destroy.ensures.stays;
  refused = c.destroy.ensures.refused;
  short = λ _. c.destroy.ensures.short;
}
