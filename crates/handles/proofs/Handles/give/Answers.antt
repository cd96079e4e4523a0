use Rattle.std.proofs.Common.{◌≡◌, None, Some, length, refl, sym, ap, ◌∙◌, arith}
use Rattle.std.specs.Prelude.{find, ◌==◌}
use Rattle.handles.specs.Stored.{handles_in}
use Rattle.handles.proofs.HandleLemmas.{number_of-push}
use Rattle.handles.proofs.StoredLemmas.{IsStored-given, IsStored-length, IsStored-number_of, IsStored-taken, pushed-same, taken-ids, taken-same}
use Rattle.handles.proofs.Handles.give.Goals as goal

pub returns-in-Some-clause-handle : goal.returns-in-Some-clause-handle
returns-in-Some-clause-handle c =
    let found = rw c.deref.ensures.value at c.in-Some.ensures in
    rw (← c.self.view_is) (IsStored-number_of c.self.inside.next_number _ _ c.self.invariant c.args.id (Some c.in-Some.found) found)

pub returns-in-Some-clause-given : goal.returns-in-Some-clause-given
returns-in-Some-clause-given c = rw (returns-in-Some-clause-handle c) refl

pub put_by_id-requires-clause-rise : goal.put_by_id-requires-clause-rise
put_by_id-requires-clause-rise c = taken-ids _ _ c.make_room-2.ensures.left c.self.invariant.ids

pub put_by_id-requires-clause-new : goal.put_by_id-requires-clause-new
put_by_id-requires-clause-new c =
    let none = rw c.deref.ensures.value at c.in_default.ensures in
    ap (find (λ h. h.id == c.args.id)) (taken-same _ _ c.make_room-2.ensures.left) ∙ sym none

pub put_by_id-requires-clause-room : goal.put_by_id-requires-clause-room
put_by_id-requires-clause-room c =
    let room = rw (← c.self.view_is) at c.requires.room in
    c.make_room-2.ensures.room (omega (arith, room, IsStored-length c.self.inside.next_number _ _ c.self.invariant))

pub invariant_of-self : goal.invariant_of-self
invariant_of-self c =
    let none = rw c.deref.ensures.value at c.in_default.ensures in
    let taken = IsStored-taken c.self.inside.next_number _ _ c.make_room.new.entries.items c.make_room-2.new.entries.items
    c.self.invariant c.make_room.ensures.left c.make_room-2.ensures.left in
    let absent = none ∙ ap (find (λ h. h.id == c.args.id)) (sym (taken-same _ _ c.make_room-2.ensures.left)) in
    rw c.push_reserved.ensures.items
    (IsStored-given c.self.inside.next_number c.args.id c.args.private _ _ _ absent c.put_by_id.ensures.put
    c.put_by_id.ensures.rise taken)

pub returns-clause-given : goal.returns-clause-given
returns-clause-given c =
    let none = rw c.deref.ensures.value at c.in_default.ensures in
    let absent = IsStored-number_of c.self.inside.next_number _ _ c.self.invariant c.args.id None none in
    let items = ap handles_in c.push_reserved.ensures.items
    ∙ pushed-same c.make_room.new.entries.items
    (record { handle = c.self.inside.next_number; id = c.args.id; private = c.args.private }) in
    rw (
      ← c.self.view_is,
      absent,
      items,
      taken-same _ _ c.make_room.ensures.left,
      c.push_reserved.ensures.capacity,
      c.make_room.ensures.capacity,
      c.put_by_id.ensures.capacity,
      c.make_room-2.ensures.capacity,
    ) refl

pub returns-clause-handle : goal.returns-clause-handle
returns-clause-handle c =
    let none = rw c.deref.ensures.value at c.in_default.ensures in
    let absent = IsStored-number_of c.self.inside.next_number _ _ c.self.invariant c.args.id None none in
    let items = ap handles_in c.push_reserved.ensures.items
    ∙ pushed-same c.make_room.new.entries.items
    (record { handle = c.self.inside.next_number; id = c.args.id; private = c.args.private }) in
    rw (items, taken-same _ _ c.make_room.ensures.left)
    (number_of-push _ (record { handle = c.self.inside.next_number; id = c.args.id; private = c.args.private }) absent)
