use Rattle.std.proofs.Common.{◌≡◌, ◌++◌, ◌∷◌, [], None, ap, sym, ◌∙◌, subst}
use Rattle.hall_log.specs.declared.event.Event.{Event}
use Rattle.hall_log.specs.SeatLogs.{SeatLog, done_by, Awaits}
use Rattle.hall_channels.proofs.port.Port.tell.Goals as goal

pub take-requires : goal.take-requires
take-requires g c = subst (λ (x : SeatLog × Event). Awaits x.0 x.1) (λ i. (sym c.receive.ensures.0 i, sym c.of-put.ensures i))
    (c.put.ensures.awaits c.if-not-put.false)

pub returns-in-Some-Back-clause-done : goal.returns-in-Some-Back-clause-done
returns-in-Some-Back-clause-done g c = λ t.
    let before : done_by c.receive.new.self.putter ≡ done_by c.args.self.now.putter =
    ap (λ (p : SeatLog). done_by p) c.receive.ensures.0 ∙ c.put.ensures.told in
    let last : (c.of-put.result.value, c.in-Some-Back.returned.receipt.answer.value) ≡ (c.args.event, None) =
    λ i. (c.of-put.ensures i, c.in-Some-Back.returned.none i) in
    (c.if-not-take.ensures.got t).0 ∙ (λ i. before i ++ last i ∷ [])
