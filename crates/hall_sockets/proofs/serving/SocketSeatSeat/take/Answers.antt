use Rattle.std.proofs.Common.{subst, sym}
use Rattle.hall_log.specs.Lists.{of}
use Rattle.hall_log.specs.Log.{served}
use Rattle.hall.specs.SeatEvents.{IsAwaitedReply}
use Rattle.hall_sockets.specs.Staying.{WaitsFor}
use Rattle.hall_sockets.proofs.Standing.{owed-by, stands-by}
use Rattle.hall_sockets.proofs.Writing.{may-take}
use Rattle.hall_sockets.proofs.serving.SocketSeatSeat.take.Goals as goal

pub take_reply-requires-clause-owed : goal.take_reply-requires-clause-owed
take_reply-requires-clause-owed g c =
    owed-by g.S.Socket.given c.args.self.now
    (of c.args.self.now.clients.number (served c.args.told.now)) c.args.app c.args.reply c.requires.reply

pub take_reply-requires-clause-may : goal.take_reply-requires-clause-may
take_reply-requires-clause-may g c =
    let was = c.args.self.now in
    let l = c.by-licence.ensures in
    let name = c.requires.knows in
    may-take g.J.Naming.given g.S.Socket.given name.gives g.J.Naming.seed (served c.by-licence.result.told) was name.seed l.own
    (g.J.Naming.served (served c.by-licence.result.told)) l.served c.dues.ensures.answered l.suited c.args.app c.args.reply
    (subst (λ t. IsAwaitedReply (WaitsFor g.S.Socket.given was) (of was.clients.number (served t)) c.args.app c.args.reply)
    (sym l.told) c.requires.reply)

pub returns-clause-stands : goal.returns-clause-stands
returns-clause-stands g c = stands-by g.S.Socket.given c.args.self.now
    (of c.args.self.now.clients.number
    (served c.args.told.now)) c.args.app c.args.reply c.requires.reply c.take_reply.new.self c.take_reply.ensures
