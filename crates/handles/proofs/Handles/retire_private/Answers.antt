use Rattle.handles.proofs.StoredLemmas.{IsStored-private}
use Rattle.handles.proofs.Handles.retire_private.Goals as goal

pub invariant_of-self : goal.invariant_of-self
invariant_of-self c =
    IsStored-private c.self.inside.next_number c.self.inside.entries.items c.self.inside.by_id.items c.self.invariant _ _
    c.take_out_private.ensures.left c.take_out_private-2.ensures.left
    (c.take_out_private.ensures.numbers c.self.inside.next_number c.self.invariant.numbers)
    (c.take_out_private-2.ensures.rise c.self.invariant.ids)
