use Rattle.std.proofs.Common.{refl, sym, ◌∙◌}
use Rattle.handles.proofs.StoredLemmas.{IsStored-none, IsStored-numbers, IsStored-retired, left-by-number, none-left}
use Rattle.handles.proofs.Handles.retire.Goals as goal

pub retire_handle-requires : goal.retire_handle-requires
retire_handle-requires c = IsStored-numbers c.self.inside.next_number c.self.inside.entries.items c.self.inside.by_id.items c.self.invariant

pub invariant_of-self : goal.invariant_of-self
invariant_of-self c =
    IsStored-retired c.self.inside.next_number c.self.inside.entries.items c.self.inside.by_id.items c.self.invariant c.args.id _ _
    c.in-Some.found c.in-Some.ensures.found c.retire_handle.ensures.left c.retire_id.ensures.left
    (c.retire_handle.ensures.numbers c.self.inside.next_number c.self.invariant.numbers) c.retire_id.ensures.rise

pub invariant_of-self-in_default : goal.invariant_of-self-in_default
invariant_of-self-in_default c =
    IsStored-none c.self.inside.next_number c.self.inside.entries.items c.self.inside.by_id.items c.self.invariant c.args.id _
    c.in_default.ensures.found c.retire_id.ensures.left c.retire_id.ensures.rise

pub returns-in-Some : goal.returns-in-Some
returns-in-Some c =
    let left = c.retire_handle.ensures.left
    ∙ left-by-number c.self.inside.next_number c.self.inside.entries.items c.self.inside.by_id.items c.self.invariant c.args.id
    c.in-Some.found c.in-Some.ensures.found in
    rw (← c.self.view_is, left, c.retire_handle.ensures.capacity, c.retire_id.ensures.capacity) refl

pub returns-in_default : goal.returns-in_default
returns-in_default c =
    let left = sym (none-left c.self.inside.next_number c.self.inside.entries.items c.self.inside.by_id.items c.self.invariant
    c.args.id c.in_default.ensures.found) in
    rw (← c.self.view_is, left, c.retire_id.ensures.capacity) refl
