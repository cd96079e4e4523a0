use Rattle.std.proofs.Common.{ap, refl, subst, sym, ◌∙◌}
use Rattle.line_places.specs.Tying.{AllTied}
use Rattle.std.proofs.Math.Logic.{∥∥₁_map}
use Rattle.line_places.proofs.Arriving.{all-came}
use Rattle.hall_sockets.specs.Telling.{apps_of}
use Rattle.hall_sockets.proofs.seat.SocketSeat.take_reply.Goals as goal

pub invariant_of-self : goal.invariant_of-self
invariant_of-self g c =
    let was = c.args.self.now in
    let e = c.reply.ensures in
    record {
      calls = was.calls ∙ sym e.asked;
      gone = was.gone ∙ ap apps_of (sym e.past);
      came = ∥∥₁_map was.came (all-came was.clients c.reply.new.self e.still was.door);
    }

pub returns-then-is_pending : goal.returns-then-is_pending
returns-then-is_pending g c =
    let e = c.reply.ensures in
    let w = c.watch.ensures in (
      ap (λ k. k.number) w.0 ∙ e.same.number,
      ap (λ k. k.seed) w.0 ∙ e.same.seed,
      w.1,
      ap (λ k. k.told.items) w.0 ∙ e.told,
      λ tied. subst (λ k. ∥ AllTied g.S.Socket.given (λ r. r) (λ w. w) k.places.items k.past.items ∥₁) (sym w.0) (∥∥₁_map tied e.tied),
    )

pub returns-else-is_pending : goal.returns-else-is_pending
returns-else-is_pending g c = let e = c.reply.ensures in (e.same.number, e.same.seed, refl, e.told, λ tied. ∥∥₁_map tied e.tied)
