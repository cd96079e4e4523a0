use Rattle.std.proofs.Common.{refl, rules, sym, ap, ◌∙◌, is_none}
use Rattle.serve_base.proofs.Gaves.{gave-is, gave-quiet}
use Rattle.serve_base.proofs.InSession.{in_session}
use Rattle.serve_base.proofs.Storing.{has-still}
use Rattle.serve_base.specs.Shown.{view_of}
use Rattle.model_answers.specs.FindObjectsInit.{searches}
use Rattle.serve_objects.proofs.Searches.{none-is, begins-is, gives-search}
use Rattle.serve_objects.proofs.find_objects_init.serve.Goals as goal

pub returns : goal.returns
returns g c = record {
  serves = λ sure k h fits.
      let d = c.args.desk.now in
      let s = in_session _ _ c.state.result _ c.state.ensures c.in_ok-ok_or.ensures.ok_part in
      let idle = none-is c.search.result _ c.search.ensures (sym c.is_some.ensures ∙ c.if-is_some.false) in
      let is = begins-is (view_of k d) c.args.session c.args.template.now (ap is_none s.1) idle in
      rw (c.set_search.ensures, c.new.ensures) (gave-is _ _ (searches (view_of k d) c.args.session c.args.template.now) _ k _ _ _ _ is
      (gave-quiet _ _ _ k _ _ _ _ (has-still _ _ _ k c.find_all.ensures.same c.find_all.ensures.ids h)
      (λ left may. c.find_all.ensures.same.crash k left h.held may) refl
      (rw (c.give_handles.ensures.given, c.give_handles.ensures.numbers, c.in_ok-handles.ensures.items, c.deref.ensures.value)
      (gives-search k d c.reserve_handles.new.self c.args.session c.args.template.now c.in_ok-matches.matches.items h.sound fits
      c.reserve_handles.ensures.same (c.in_ok-matches.ensures.found sure k h)))));
  counts = search rules;
  cause = search rules;
  plain = refl;
  stays = tt;
  refused = λ is. absurd cc;
  short = search rules;
}
