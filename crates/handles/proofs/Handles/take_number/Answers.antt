use Rattle.handles.proofs.StoredLemmas.{IsStored-next}
use Rattle.handles.proofs.Handles.take_number.Goals as goal

pub invariant_of-self : goal.invariant_of-self
invariant_of-self c = IsStored-next c.self.inside.next_number _ _ c.self.invariant
