use Rattle.std.proofs.Common.{◌≡◌, rules, Some, [], sym, ◌∙◌, ap}
use Rattle.std.specs.Prelude.{is_some, ◌&&◌, option_map}
use Rattle.std.specs.Option.{option_copied, unwrap_or}
use Rattle.precede.specs.declared.condition.Condition.TheVariants.{DataTaken, SignatureLength}
use Rattle.sessions.specs.Sessions.{session_at}
use Rattle.ops.specs.declared.place.Kind.TheVariants.{Mac}
use Rattle.ops.specs.declared.place.MacPlace.TheVariants as places
use Rattle.ops.specs.Operations.{mac_in, mac_of}
use Rattle.model_views.specs.Views.{Verifies}
use Rattle.model_views.specs.Answering.{asks}
use Rattle.model_answers.specs.Mac.{mac_has_taken, verify_function}
use Rattle.serve_base.specs.Shown.{view_of}
use Rattle.serve_operations.proofs.Signing.{verify-asks, verify-late, verify-odd}
use Rattle.serve_operations.proofs.Ending.{ended-for, gives-is}
use Rattle.serve_operations.proofs.mac.verify.Goals as goal
use Rattle.serve_operations.proofs.mac.verify.Goals.{After-is_late}

going : (c : After-is_late)
    → mac_in (session_at c.args.desk.now.sessions.sessions c.args.session) places.Verify ≡ Some (mac_of c.in_ok-mac.mac.now)
going c = sym c.mac.ensures ∙ ap (λ r. option_map mac_of (option_copied r)) c.in_ok-mac.ensures.ok_part

late : (c : After-is_late) → (is_some c.args.all && mac_has_taken (mac_of c.in_ok-mac.mac.now)) ≡ c.is_late.result
late c = rw c.has_taken.ensures at (sym c.is_late.ensures)

pub returns-then-is_late-clause-serves : goal.returns-then-is_late-clause-serves
returns-then-is_late-clause-serves c =
    let met = (goal.at.returns-then-is_late-clause-serves c).After-is_late in
    rw (c.end.ensures.reply, c.end.ensures.ended)
    (ended-for c.args.desk.now c.args.session DataTaken _ _ (Mac places.Verify)
    (λ k. verify-late (view_of k c.args.desk.now) c.args.session c.in_ok-mac.mac.now c.args.all c.args.signature (going met)
    (late met ∙ c.if-is_late.true)))

pub returns-then-not-has_its_length-clause-serves : goal.returns-then-not-has_its_length-clause-serves
returns-then-not-has_its_length-clause-serves c =
    let met = (goal.at.returns-then-not-has_its_length-clause-serves c).After-is_late in
    rw (c.end-then-not-has_its_length.ensures.reply, c.end-then-not-has_its_length.ensures.ended)
    (ended-for c.args.desk.now c.args.session SignatureLength _ _ (Mac places.Verify)
    (λ k. verify-odd (view_of k c.args.desk.now) c.args.session c.in_ok-mac.mac.now c.args.all c.args.signature (going met)
    (late met ∙ c.if-is_late.false) (rw c.as_slice.ensures at (sym c.has_its_length.ensures ∙ c.if-not-has_its_length.true))))

pub returns-clause-serves : goal.returns-clause-serves
returns-clause-serves c = record {
  serves = λ k fits.
      let met = (goal.at.returns-clause-serves c).After-is_late in
      let d = c.args.desk.now in
      let v = view_of k d in
      let a = c.in_ok-mac.mac.now in
      gives-is _ (asks v (verify_function c.args.all) c.args.session
      (Verifies (mac_of a) (unwrap_or c.args.all []) c.args.signature)) k d _ _
      (verify-asks v c.args.session a c.args.all c.args.signature (going met) (late met ∙ c.if-is_late.false)
      (rw c.as_slice.ensures at (sym c.has_its_length.ensures ∙ c.if-not-has_its_length.false)))
      (search rules);
  cause = search rules;
  short = search rules;
}
