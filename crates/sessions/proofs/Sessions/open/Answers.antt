use Rattle.std.proofs.Common.{ap, refl}
use Rattle.lists.specs.InOrder.{in_order}
use Rattle.lists.proofs.InOrderLemmas.{in_order-next}
use Rattle.sessions.proofs.SessionLemmas.{IsTable-with_session}
use Rattle.sessions.proofs.Sessions.open.Goals as goal

pub invariant_of-self-2 : goal.invariant_of-self-2
invariant_of-self-2 g c =
    let slots = ap (λ s. in_order (λ x. x.handle) s.slots) c.reserve.ensures.rest_kept in
    let opened = in_order-next (λ s. s.handle) _ _ _ _ c.self.inside.next_number c.insert_reserved.ensures.was_vacant
    c.insert_reserved.ensures.updates refl (rw slots c.self.invariant.rising) in
    rw (opened, slots) (IsTable-with_session c.idle.result c.args.read_write _ c.self.invariant
    (rw (← c.self.view_is) at c.requires.room) (rw (← c.self.view_is) at c.requires.access))

pub returns-clause-opened : goal.returns-clause-opened
returns-clause-opened g c =
    let slots = ap (λ s. in_order (λ x. x.handle) s.slots) c.reserve.ensures.rest_kept in
    let opened = in_order-next (λ s. s.handle) _ _ _ _ c.self.inside.next_number c.insert_reserved.ensures.was_vacant
    c.insert_reserved.ensures.updates refl (rw slots c.self.invariant.rising) in
    rw (← c.self.view_is, opened, slots, c.idle.ensures) refl
