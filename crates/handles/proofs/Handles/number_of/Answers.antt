use Rattle.std.proofs.Common.{None, Some, sym, ap, ◌∙◌}
use Rattle.std.specs.Option.{option_map}
use Rattle.handles.specs.Stored.{handles_in}
use Rattle.handles.proofs.HandleLemmas.{IfSome-number_of}
use Rattle.handles.proofs.StoredLemmas.{IsStored-number_of}
use Rattle.handles.proofs.Handles.number_of.Goals as goal

pub find_id-requires : goal.find_id-requires
find_id-requires c = rw c.deref.ensures.value c.self.invariant.ids

pub returns-in-Some-clause-handle : goal.returns-in-Some-clause-handle
returns-in-Some-clause-handle c =
    let found = rw c.deref.ensures.value at c.in-Some.ensures in
    rw (← c.self.view_is) (sym (IsStored-number_of c.self.inside.next_number c.self.inside.entries.items c.self.inside.by_id.items
    c.self.invariant c.args.id (Some c.in-Some.found) found))

pub returns-in-Some-clause-matched : goal.returns-in-Some-clause-matched
returns-in-Some-clause-matched c =
    let handle = rw (← c.self.view_is) at (returns-in-Some-clause-handle c) in
    rw (← c.self.view_is) (IfSome-number_of c.self.inside.next_number c.args.id (handles_in c.self.inside.entries.items)
    (Some c.in-Some.found.handle) c.self.invariant.table handle)

pub returns-in-None-clause-handle : goal.returns-in-None-clause-handle
returns-in-None-clause-handle c =
    let found = rw c.deref.ensures.value at c.in-None.ensures in
    rw (← c.self.view_is) (sym (IsStored-number_of c.self.inside.next_number c.self.inside.entries.items c.self.inside.by_id.items
    c.self.invariant c.args.id None found))
