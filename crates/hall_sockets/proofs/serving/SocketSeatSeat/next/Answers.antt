use Rattle.std.proofs.Common.{subst, sym, ◌∙◌}
use Rattle.hall_log.specs.Lists.{of}
use Rattle.hall_log.specs.Log.{served}
use Rattle.hall.specs.declared.seats.SeatEvent.TheVariants.{Call}
use Rattle.hall_sockets.specs.Staying.{SeatGives, SeatStandsAfter}
use Rattle.hall_sockets.proofs.Standing.{next-may, next-stands, then}
use Rattle.hall_sockets.proofs.Writing.{may-from, was-read}
use Rattle.hall_sockets.proofs.serving.SocketSeatSeat.next.Goals as goal

pub next_event-event-requires : goal.next_event-event-requires
next_event-event-requires g c =
    let l = c.by-licence.ensures in
    let name = c.requires.knows in
    record {
      may = may-from g.J.Naming.given g.S.Socket.given name.gives g.J.Naming.seed
          (served c.by-licence.result.told) c.args.self.now name.seed l.own
          (g.J.Naming.served (served c.by-licence.result.told)) l.served c.dues.ensures.refused
          (subst (λ t. SeatStandsAfter g.S.Socket.given c.args.self.now (of c.args.self.now.clients.number (served t)))
          (sym l.told) c.requires.stands);
    }

pub returns-else-is_none-clause-may : goal.returns-else-is_none-clause-may
returns-else-is_none-clause-may g c =
    let was = c.args.self.now in
    let now = c.next_event-event.new.self in
    let before = of was.clients.number (served c.args.told.now) in
    let name = c.requires.knows in
    next-may g.S.Socket.given g.J.Naming.was_read was now before c.requires.stands c.next_event-event.result
    (λ call is. let gives = subst (λ o. SeatGives g.S.Socket.given was now o) is c.next_event-event.ensures.gives in
    name.reads before call (was-read g.J.Naming.given g.S.Socket.given name.gives c.accounts.ensures.left g.J.Naming.seed now
    (name.seed ∙ sym gives.1) before call (then g.S.Socket.given was now before c.requires.stands (Call call) gives)))
    c.next_event-event.ensures.gives

pub returns-else-is_none-clause-stands : goal.returns-else-is_none-clause-stands
returns-else-is_none-clause-stands g c =
    next-stands g.S.Socket.given c.args.self.now c.next_event-event.new.self
    (of c.args.self.now.clients.number
    (served c.args.told.now)) c.requires.stands c.next_event-event.result c.next_event-event.ensures.gives
