use Rattle.std.proofs.Common.{◌+◌, ◌≤◌, ◌≡◌, length, vec_len, ap, inl, refl, sym, arith}
use Rattle.std.specs.Vec.{vec_capacity}
use Rattle.std.proofs.lemmas.Result.{on_ok_weaker}
use Rattle.handles.specs.Stored.{handles_in}
use Rattle.handles.proofs.LiveLemmas.{length-live}
use Rattle.handles.proofs.StoredLemmas.{IsStored-length, IsStored-taken, taken-same}
use Rattle.handles.proofs.Handles.reserve.Goals as goal

pub invariant_of-self : goal.invariant_of-self
invariant_of-self c = IsStored-taken c.self.inside.next_number c.self.inside.entries.items c.self.inside.by_id.items _ _
    c.self.invariant c.reserve_entries.ensures.left (inl refl)

pub returns-in_err-reserve_entries-clause-same : goal.returns-in_err-reserve_entries-clause-same
returns-in_err-reserve_entries-clause-same c = rw (← c.self.view_is, taken-same _ _ c.reserve_entries.ensures.left) refl

pub invariant_of-self-2 : goal.invariant_of-self-2
invariant_of-self-2 c = IsStored-taken c.self.inside.next_number c.self.inside.entries.items c.self.inside.by_id.items _ _
    c.self.invariant c.reserve_entries.ensures.left c.reserve_entries-2.ensures.left

pub returns-clause-room : goal.returns-clause-room
returns-clause-room c =
    let first : vec_len c.reserve_entries.new.entries + c.args.additional ≤ vec_capacity c.reserve_entries.new.entries =
    c.in_ok-reserve_entries.ensures.room in
    let live = length-live (λ e. e.retired) (λ e. e.handle) c.reserve_entries.new.entries.items in
    let live' = length-live (λ e. e.retired) (λ e. e.handle) c.reserve_entries-2.new.entries.items in
    let same = IsStored-length c.self.inside.next_number _ _ (invariant_of-self-2 c) in
    on_ok_weaker c.reserve_entries-2.result
    (λ (room : vec_len c.reserve_entries-2.new.entries + c.args.additional ≤ vec_capacity c.reserve_entries-2.new.entries).
    omega (
      arith,
      first,
      room,
      live,
      live',
      same,
      c.reserve_entries.new.entries.ok.0,
      c.reserve_entries-2.new.entries.ok.0,
    )) c.reserve_entries-2.ensures.room

pub returns-clause-succeeds : goal.returns-clause-succeeds
returns-clause-succeeds c = λ room.
    let here = rw (← c.self.view_is) at room in
    c.reserve_entries-2.ensures.succeeds (omega (arith, here, IsStored-length c.self.inside.next_number _ _ c.self.invariant))

pub returns-clause-same : goal.returns-clause-same
returns-clause-same c = rw (← c.self.view_is, taken-same _ _ c.reserve_entries.ensures.left) refl
