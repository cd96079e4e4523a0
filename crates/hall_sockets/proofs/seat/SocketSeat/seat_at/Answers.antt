use Rattle.std.proofs.Common.{ap, refl, subst, sym, ◌∙◌}
use Rattle.std.proofs.Math.Logic.{∥∥₁_map}
use Rattle.line_places.specs.Arriving.{AllCame}
use Rattle.line_places.proofs.Arriving.{fresh}
use Rattle.hall_sockets.specs.Telling.{apps_of}
use Rattle.hall_sockets.proofs.Staying.{came-more, ends-of}
use Rattle.hall_sockets.proofs.seat.SocketSeat.seat_at.Goals as goal

pub accept-requires : goal.accept-requires
accept-requires g c = let was = c.args.self.now in
    record { fresh = fresh was.clients.number was.clients.places.items c.args.place c.in-Some.app c.in-Some.ensures.next was.door was.came }

pub invariant_of-self : goal.invariant_of-self
invariant_of-self g c =
    let was = c.args.self.now in
    record {
      calls = was.calls;
      gone = was.gone;
      came = subst (λ d. ∥ AllCame was.clients.number was.clients.places.items d ∥₁) (sym c.in_err-reader.ensures.none) was.came;
    }

pub invariant_of-self-in-Ok : goal.invariant_of-self-in-Ok
invariant_of-self-in-Ok g c =
    let was = c.args.self.now in
    let e = c.open.ensures in
    let came = c.in_ok-reader.ensures.came in
    let next = c.in-Some.ensures.next in
    record {
      calls = was.calls ∙ sym e.quiet.asked;
      gone = was.gone ∙ ap apps_of (sym e.past);
      came = came-more was.clients c.open.new.self was.door c.accept.new.self c.in-Some.app e.still
          (e.come c.in-Some.app next) came.0 was.came;
    }

pub invariant_of-self-in-Err : goal.invariant_of-self-in-Err
invariant_of-self-in-Err g c =
    let was = c.args.self.now in
    let e = c.pass.ensures in
    record {
      calls = was.calls ∙ sym e.quiet.asked;
      gone = was.gone ∙ ap apps_of (sym e.past);
      came = came-more was.clients c.pass.new.self was.door c.accept.new.self c.in-Some.app e.still
          (e.passes c.in-Some.app c.in-Some.ensures.next) c.in_ok-reader.ensures.came.0 was.came;
    }

pub returns-in-Ok : goal.returns-in-Ok
returns-in-Ok g c = let e = c.open.ensures in (
  e.same.number,
  e.same.seed,
  e.past,
  e.quiet.asked,
  e.quiet.told,
  refl,
  λ tied. ∥∥₁_map tied (e.tied c.in-Some.app c.in-Some.ensures.next
      (ends-of c.in-Some.app c.in_ok-reader.reader c.in_ok-reader.writer c.in_ok-reader.ensures.came.1)),
)

pub returns-in-Err : goal.returns-in-Err
returns-in-Err g c = let e = c.pass.ensures in
    (e.same.number, e.same.seed, e.past, e.quiet.asked, e.quiet.told, refl, λ tied. ∥∥₁_map tied e.tied)
