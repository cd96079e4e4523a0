use Rattle.std.proofs.Common.{◌≡◌, rules, Some, sym, ◌∙◌, ap}
use Rattle.std.specs.Prelude.{option_map}
use Rattle.std.specs.Option.{option_copied}
use Rattle.sessions.specs.Sessions.{session_at}
use Rattle.ops.specs.Operations.{mac_in, mac_of}
use Rattle.model_views.specs.Views.{Takes}
use Rattle.model_views.specs.Answering.{asks}
use Rattle.model_answers.specs.Mac.{mac_update_function}
use Rattle.serve_base.specs.Shown.{view_of}
use Rattle.serve_operations.proofs.Signing.{update-asks}
use Rattle.serve_operations.proofs.Ending.{gives-is}
use Rattle.serve_operations.proofs.mac.update.Goals as goal

pub returns-clause-serves : goal.returns-clause-serves
returns-clause-serves c = record {
  serves = λ k fits.
      let d = c.args.desk.now in
      let v = view_of k d in
      let a = c.in_ok-mac.mac.now in
      let way : mac_in (session_at d.sessions.sessions c.args.session) c.args.place ≡ Some (mac_of a) =
      sym c.mac.ensures ∙ ap (λ r. option_map mac_of (option_copied r)) c.in_ok-mac.ensures.ok_part in
      gives-is _ (asks v (mac_update_function c.args.place) c.args.session (Takes c.args.place (mac_of a) c.args.input)) k d _ _
      (update-asks v c.args.session c.args.place a way c.args.input)
      (search rules);
  cause = search rules;
  short = search rules;
}
