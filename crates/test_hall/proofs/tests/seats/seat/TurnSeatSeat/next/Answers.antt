use Rattle.std.proofs.Common.{◌∙◌}
use Rattle.hall_log.specs.Lists.{of}
use Rattle.hall_log.specs.Log.{served}
use Rattle.test_hall.proofs.Gone.{gone-more, next-may, next-stands}
use Rattle.test_hall.proofs.tests.seats.seat.TurnSeatSeat.next.Goals as goal

pub returns-else-is_none-clause-may : goal.returns-else-is_none-clause-may
returns-else-is_none-clause-may g c =
    next-may g.J.Naming.was_read c.args.self.now.number c.args.self.now.gone.items
    (of c.args.self.now.number (served c.args._told.now)) c.requires.knows c.requires.stands.1 c.ready_event-event.result
    c.ready_event-event.ensures.own c.ready_event-event.ensures.there

pub returns-then-is_none-clause-stands : goal.returns-then-is_none-clause-stands
returns-then-is_none-clause-stands g c =
    next-stands c.ready_event-event.new.self.told.items c.ready_event-event.new.self.gone.items _
    (of c.args.self.now.number (served c.args._told.now)) (c.ready_event-event.ensures.told ∙ c.requires.stands.0)
    (gone-more c.args.self.now.gone.items c.ready_event-event.new.self.gone.items c.ready_event-event.ensures.gone
    (of c.args.self.now.number (served c.args._told.now)) c.requires.stands.1) c.ready_event-event.result
    c.ready_event-event.ensures.goes c.ready_event-event.ensures.room

pub returns-else-is_none-clause-stands : goal.returns-else-is_none-clause-stands
returns-else-is_none-clause-stands g c =
    next-stands c.ready_event-event.new.self.told.items c.ready_event-event.new.self.gone.items _
    (of c.args.self.now.number (served c.args._told.now)) (c.ready_event-event.ensures.told ∙ c.requires.stands.0)
    (gone-more c.args.self.now.gone.items c.ready_event-event.new.self.gone.items c.ready_event-event.ensures.gone
    (of c.args.self.now.number (served c.args._told.now)) c.requires.stands.1) c.ready_event-event.result
    c.ready_event-event.ensures.goes c.ready_event-event.ensures.room
