use Rattle.std.proofs.Common.{rules, sym, ◌∙◌, ap}
use Rattle.std.specs.Prelude.{is_none}
use Rattle.serve_base.proofs.InSession.{in_session}
use Rattle.serve_sessions.proofs.Closing.{gives-logged-out}
use Rattle.serve_sessions.proofs.logout.serve.Goals as goal

pub returns-clause-serves : goal.returns-clause-serves
returns-clause-serves c = record {
  serves = λ k fits.
      let there = in_session _ _ c.state.result _ c.state.ensures c.in_ok-ok_or.ensures.ok_part in
      rw c.logout.ensures (gives-logged-out k c.args.desk.now c.args.session (ap is_none there.1)
      (ap is_none (sym c.logged_in.ensures.login ∙ c.in_ok-ok_or-2.ensures.ok_part)) fits);
  cause = search rules;
  short = search rules;
}
