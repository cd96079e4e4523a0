use Rattle.std.proofs.Common.{Some, sym, ap, ◌∙◌}
use Rattle.std.specs.Option.{option_map}
use Rattle.handles.specs.Stored.{handles_in}
use Rattle.handles.proofs.HandleLemmas.{IfSome-object_of}
use Rattle.handles.proofs.StoredLemmas.{IsStored-numbers}
use Rattle.handles.proofs.Handles.object_of.Goals as goal

pub find_handle-requires : goal.find_handle-requires
find_handle-requires c = rw c.deref.ensures.value (IsStored-numbers c.self.inside.next_number _ c.self.inside.by_id.items c.self.invariant)

pub returns-in-Some-clause-object : goal.returns-in-Some-clause-object
returns-in-Some-clause-object c =
    let found = rw c.deref.ensures.value at c.in-Some.ensures in
    rw (← c.self.view_is) (ap (option_map (λ h. h.id)) found)

pub returns-in-Some-clause-matched : goal.returns-in-Some-clause-matched
returns-in-Some-clause-matched c =
    let found = rw c.deref.ensures.value at c.in-Some.ensures in
    rw (← c.self.view_is) (IfSome-object_of c.self.inside.next_number c.args.handle (handles_in c.self.inside.entries.items)
    (Some c.in-Some.found.id) c.self.invariant.table (ap (option_map (λ h. h.id)) found))
