use denote.Exit as exits
use denote.Param.Send.{param_send, arg_send}
use Rattle.hall.specs.Terms.{token_terms}
use Rattle.hall_sockets.proofs.ByHistory.{served_by}
use Rattle.hall_sockets.proofs.Crosses.{seat_send}
use Rattle.hall_sockets.proofs.Staying.{new-stands}
use Rattle.hall_sockets.proofs.holding.hold_over.Lts as lts
use Rattle.hall_sockets.proofs.holding.hold_over.Goals as goal

pub hold-requires-send-S : goal.hold-requires-send-S
hold-requires-send-S g c κs within =
    param_send 2 (lts.arg-2-2 g.row.J g.row.K g.row.S g.row.L g.row.C g.row.G g.row.R g.J.laws g.K.laws g.S.laws g.L.laws g.C.laws
    g.G.laws g.R.laws g.R.copy g.J.Naming g.J.Naming-dict g.K.Keep g.K.Keep-dict g.S.Outgoing g.S.Outgoing-dict g.S.Socket
    g.S.Socket-dict g.L.Log g.L.Log-dict g.C.Clock g.C.Clock-dict g.G.Gate g.G.Gate-dict g.R.Threads g.R.Threads-dict g.R.Wait
    g.R.Wait-dict g.R.Clock g.R.Clock-dict g.R.Clone g.R.Clone-dict g.K.Destruct-dict g.S.Destruct-dict g.L.Destruct-dict
    g.C.Destruct-dict g.G.Destruct-dict κs)
    (arg_send _ exits.no _ (seat_send _ _ _ c.type_bounds.send-S c.type_bounds.sync-S c.type_bounds.send-L c.type_bounds.send-C))

pub hold-requires-clause-stands : goal.hold-requires-clause-stands
hold-requires-clause-stands g c κs within =
    let fresh = c.requires.new in
    let seed = c.args.seats.0.clients.seed in (
      new-stands g.S.Socket.given c.args.seats.0 seed 0 fresh.0,
      new-stands g.S.Socket.given c.args.seats.1 seed 1 fresh.1,
      new-stands g.S.Socket.given c.args.seats.2 seed 2 fresh.2,
      new-stands g.S.Socket.given c.args.seats.3 seed 3 fresh.3,
    )

pub returns-clause-served : goal.returns-clause-served
returns-clause-served g c = served_by c.accounts.ensures.stopped c.accounts.ensures.left c.own_seat.ensures g.S.Socket.given
    (token_terms g.K.Keep.terms) g.J.Naming.served c.args.seats.0.clients.seed c.args.seats c.args.token c.hold.result c.requires.new
    c.hold.ensures.fixed c.hold.ensures.held
