use Rattle.std.proofs.Common.{ap, subst, sym, ◌∙◌}
use Rattle.line_places.specs.Arriving.{AllCame}
use Rattle.hall_sockets.specs.Telling.{apps_of, calls_in, gone_in}
use Rattle.hall_sockets.proofs.seat.SocketSeat.new.Goals as goal

pub invariant_of-result : goal.invariant_of-result
invariant_of-result g c =
    let e = c.in_ok-new.ensures in
    let clients = c.in_ok-new.field-0 in
    record {
      calls = ap calls_in c.new-4.ensures ∙ sym e.none.1;
      gone = ap gone_in c.new-4.ensures ∙ ap apps_of (sym e.none.0);
      came = ∣ subst (AllCame clients.number clients.places.items) (sym c.new-2.ensures) tt ∣₁;
    }
