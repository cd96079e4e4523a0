use Rattle.hall_log.specs.Lists.{of}
use Rattle.hall_log.specs.Log.{served}
use Rattle.test_hall.proofs.Gone.{reply-stands}
use Rattle.test_hall.proofs.tests.seats.seat.TurnSeatSeat.take.Goals as goal

pub returns-clause-stands : goal.returns-clause-stands
returns-clause-stands g c = reply-stands c.args.self.now.told.items c.args.self.now.gone.items _
    (of c.args.self.now.number (served c.args._told.now)) c.args.app c.args.reply c.requires.reply c.push_reserved.new.self.items
    c.push_reserved.ensures.items
