use Rattle.std.proofs.Common.{◌≡◌, rules, Some, [], sym, ◌∙◌, ap}
use Rattle.std.specs.Prelude.{is_some, ◌&&◌, option_map}
use Rattle.std.specs.Option.{option_copied, unwrap_or}
use Rattle.macs.specs.Tags.{tag_length}
use Rattle.precede.specs.declared.condition.Condition.TheVariants.{DataTaken}
use Rattle.sessions.specs.Sessions.{session_at}
use Rattle.ops.specs.declared.place.Kind.TheVariants.{Mac}
use Rattle.ops.specs.declared.place.MacPlace.TheVariants as places
use Rattle.ops.specs.Operations.{mac_in, mac_of}
use Rattle.model_views.specs.Views.{Signs}
use Rattle.model_answers.specs.Mac.{mac_has_taken, sign_function}
use Rattle.serve_base.specs.Shown.{view_of}
use Rattle.serve_base.specs.Asking.{asks_within}
use Rattle.serve_operations.proofs.Signing.{sign-asks, sign-late}
use Rattle.serve_operations.proofs.Ending.{ended-for, gives-is}
use Rattle.serve_operations.proofs.mac.sign.Goals as goal
use Rattle.serve_operations.proofs.mac.sign.Goals.{After-is_late}

going : (c : After-is_late)
    → mac_in (session_at c.args.desk.now.sessions.sessions c.args.session) places.Sign ≡ Some (mac_of c.in_ok-mac.mac.now)
going c = sym c.mac.ensures ∙ ap (λ r. option_map mac_of (option_copied r)) c.in_ok-mac.ensures.ok_part

late : (c : After-is_late) → (is_some c.args.all && mac_has_taken (mac_of c.in_ok-mac.mac.now)) ≡ c.is_late.result
late c = rw c.has_taken.ensures at (sym c.is_late.ensures)

pub returns-then-is_late-clause-serves : goal.returns-then-is_late-clause-serves
returns-then-is_late-clause-serves c =
    let met = (goal.at.returns-then-is_late-clause-serves c).After-is_late in
    rw (c.end.ensures.reply, c.end.ensures.ended)
    (ended-for c.args.desk.now c.args.session DataTaken _ _ (Mac places.Sign)
    (λ k. sign-late (view_of k c.args.desk.now) c.args.session c.in_ok-mac.mac.now c.args.all c.args.buffer_len (going met)
    (late met ∙ c.if-is_late.true)))

pub returns-clause-serves : goal.returns-clause-serves
returns-clause-serves c = record {
  serves = λ k fits.
      let met = (goal.at.returns-clause-serves c).After-is_late in
      let d = c.args.desk.now in
      let v = view_of k d in
      let a = c.in_ok-mac.mac.now in
      gives-is _ (asks_within (sign_function c.args.all) c.args.session (Signs (mac_of a) (unwrap_or c.args.all []))
      (tag_length a.mechanism) c.args.buffer_len v) k d _ _
      (sign-asks v c.args.session a c.args.all c.args.buffer_len (going met) (late met ∙ c.if-is_late.false))
      (rw (c.copied-mac.ensures, c.sign_function-function.ensures, c.or_empty-input.ensures, c.tag_len-wanted.ensures, c.mechanism.ensures.value) at
      (c.in_ok-ask_within.ensures.gives k fits));
  cause = search rules;
  short = search rules;
}
