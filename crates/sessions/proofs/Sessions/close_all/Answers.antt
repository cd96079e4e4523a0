use Rattle.sessions.proofs.SessionLemmas.{IsTable-closed}
use Rattle.sessions.proofs.Sessions.close_all.Goals as goal

pub invariant_of-self : goal.invariant_of-self
invariant_of-self g c = rw c.clear.ensures.empty (IsTable-closed _ c.self.invariant)
