use Rattle.std.proofs.Common.{rules}
use Rattle.std.proofs.lemmas.Bool.{eq-eqb}
use Rattle.serve_sessions.proofs.Closing.{gives-all-closed}
use Rattle.serve_sessions.proofs.close_session.serve_all.Goals as goal

pub returns-clause-serves : goal.returns-clause-serves
returns-clause-serves c = record {
  serves = λ k fits. rw c.close_all.ensures
      (gives-all-closed k c.args.desk.now c.args.slot (eq-eqb c.args.slot 0 c.if-slot-ne-SLOT.false) fits);
  cause = search rules;
  short = search rules;
}
