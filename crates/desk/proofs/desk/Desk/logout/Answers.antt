use Rattle.desk.proofs.Discreet.{All-public}
use Rattle.desk.proofs.desk.Desk.logout.Goals as goal

pub invariant_of-self : goal.invariant_of-self
invariant_of-self c out = rw c.retire_private.ensures (All-public c.self.inside.handles.entries)
