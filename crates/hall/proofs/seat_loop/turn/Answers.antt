use Rattle.std.proofs.Common.{None, sym, ◌∙◌, subst}
use Rattle.hall_log.specs.declared.event.Event.TheVariants.{Gone}
use Rattle.hall_log.specs.SeatLogs.{done_by}
use Rattle.hall.specs.SeatEvents.{StandsThen}
use Rattle.hall.specs.declared.seats.SeatEvent.{SeatEvent}
use Rattle.hall.proofs.Turns.{pending_is, told_is}
use Rattle.hall.proofs.seat_loop.turn.Goals as goal

pub take-requires : goal.take-requires
take-requires g c =
    let put = c.in-Some.ensures.done in
    record {
      knows = c.requires.knows;
      reply = record {
        before = done_by c.args.port.now.putter;
        call = c.in-Call.call;
        more = put.0;
        waits_for = subst (λ (e : SeatEvent). StandsThen (g.S.Seat.stands c.args.seat.now) (g.S.Seat.waits c.args.seat.now)
            (done_by c.args.port.now.putter) e) c.in-Call.is c.requires.stands;
        now_is = told_is c.ask.new.port.putter (g.S.Seat.number c.args.seat.now) c.told-told.result
            (c.requires.number ∙ sym c.in-Some.ensures.seat) c.told-told.ensures.told ∙ put.3;
        turn = put.1;
        heard = put.2;
      };
    }

pub returns-in-Gone-clause-ends : goal.returns-in-Gone-clause-ends
returns-in-Gone-clause-ends g c = λ t. (
  pending_is (done_by c.args.port.now.putter) (done_by c.tell.new.self.putter) (Gone c.in-Gone.app, None) (c.tell.ensures.done t),
  subst (g.S.Seat.stands c.args.seat.now) (sym (c.tell.ensures.done t))
      (subst (λ (e : SeatEvent). StandsThen (g.S.Seat.stands c.args.seat.now) (g.S.Seat.waits c.args.seat.now)
      (done_by c.args.port.now.putter) e) c.in-Gone.is c.requires.stands),
)
