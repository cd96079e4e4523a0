use Rattle.sessions.proofs.SessionLemmas.{IsTable-logged_out}
use Rattle.sessions.proofs.Sessions.logout.Goals as goal

pub invariant_of-self : goal.invariant_of-self
invariant_of-self g c = rw c.end_work.ensures (IsTable-logged_out g.W.Activity.idle _ c.self.invariant)
