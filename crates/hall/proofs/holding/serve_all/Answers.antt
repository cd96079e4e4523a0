use Rattle.std.proofs.Common.{List, [], ap, sym, ◌∙◌, subst, refl}
use Rattle.hall_log.specs.Log.{served}
use Rattle.hall_log.specs.declared.entry.Entry.{Entry}
use Rattle.hall.specs.Given.{IsSoFar}
use Rattle.hall.proofs.Giving.{so_none}
use Rattle.hall.proofs.Ending.{held, of_seat}
use Rattle.hall.proofs.holding.serve_all.Goals as goal

pub serve_seats-requires-clause-so : goal.serve_seats-requires-clause-so
serve_seats-requires-clause-so g c =
    subst (λ (l : List Entry). IsSoFar g.M.Machine.terms
    g.J.Naming.was_read c.of-began.result.value c.args.machine (served l)) (sym c.requires.server)
    (subst (λ b. IsSoFar g.M.Machine.terms
    g.J.Naming.was_read b c.args.machine []) (sym c.of-began.ensures)
    (so_none g.M.Machine.terms g.J.Naming.was_read
    c.args.machine))

pub returns-in-Some-clause-held : goal.returns-in-Some-clause-held
returns-in-Some-clause-held g c =
    let h = served c.serve_seats.new.serving.server in
    let n = g.S.Seat.number in
    let threads = c.permit_all-outboxes.ensures in
    let so : IsSoFar g.M.Machine.terms
    g.J.Naming.was_read c.args.machine c.serve_seats.new.serving.machine h =
    subst (λ b. IsSoFar g.M.Machine.terms
    g.J.Naming.was_read b c.serve_seats.new.serving.machine h) (c.serve_seats.ensures.began ∙ c.of-began.ensures)
    (c.if-not-serve_seats.ensures.so refl) in
    let ends = c.in-Some.ensures in
    held g.S.Seat.stands g.J.Naming.served g.M.Machine.terms g.J.Naming.was_read c.in-Some.seats c.args.machine
    c.serve_seats.new.serving.machine h
    so (c.requires.all c.serve_seats.new.serving.machine h so)
    (of_seat (g.S.Seat.stands c.in-Some.seats.0) h _ 0 (ap (λ t. n t.promise.seat.value) threads.0 ∙ c.requires.numbers.0) ends.ended0)
    (of_seat (g.S.Seat.stands c.in-Some.seats.1) h _ 1 (ap (λ t. n t.promise.seat.value) threads.1 ∙ c.requires.numbers.1) ends.ended1)
    (of_seat (g.S.Seat.stands c.in-Some.seats.2) h _ 2 (ap (λ t. n t.promise.seat.value) threads.2 ∙ c.requires.numbers.2) ends.ended2)
    (of_seat (g.S.Seat.stands c.in-Some.seats.3) h _ 3 (ap (λ t. n t.promise.seat.value) threads.3 ∙ c.requires.numbers.3) ends.ended3)
