use Rattle.std.proofs.Common.{ap, refl, subst, sym, ◌∙◌, ◌++◌, ◌∷◌, []}
use Rattle.line_places.specs.Keeping.{IsClientAt}
use Rattle.hall_sockets.proofs.Staying.{apps-more, calls-gone, gone-gone, gone-last, gone-more, of-none}
use Rattle.std.proofs.Math.Logic.{∥∥₁_map}
use Rattle.line_places.proofs.Arriving.{all-came}
use Rattle.hall_sockets.specs.Telling.{apps_of, calls_in, gone_in}
use Rattle.hall_sockets.proofs.seat.SocketSeat.end.Goals as goal

pub invariant_of-self-2 : goal.invariant_of-self-2
invariant_of-self-2 g c =
    let was = c.args.self.now in
    let e = c.in_ok-app.ensures in
    let app = c.in_ok-app.app in
    let client = e.closes.1 in
    record {
      calls = ap calls_in c.push.ensures ∙ calls-gone was.asked.items app ∙ was.calls ∙ sym e.quiet.asked;
      came = ∥∥₁_map was.came (all-came was.clients c.close.new.self e.still was.door);
      gone = ap gone_in c.push.ensures ∙ gone-gone was.asked.items app ∙ ap (λ l. l ++ app ∷ []) was.gone
          ∙ sym (apps-more was.clients.past.items client.0 app client.2) ∙ ap apps_of (sym client.1);
    }

pub returns-clause-gives : goal.returns-clause-gives
returns-clause-gives g c =
    let was = c.args.self.now in
    let e = c.in_ok-app.ensures in
    let client = e.closes.1 in (
      e.same.number,
      e.same.seed,
      e.quiet.told,
      c.push.ensures,
      e.closes.0,
      gone-last was.clients.past.items c.close.new.self.past.items client.0 c.in_ok-app.app client.1 client.2,
      gone-more was.clients.past.items c.close.new.self.past.items client.0 client.1,
      λ tied. ∥∥₁_map tied e.tied,
    )

pub invariant_of-self : goal.invariant_of-self
invariant_of-self g c =
    let was = c.args.self.now in
    let e = c.in_err-app.ensures in
    record {
      calls = was.calls ∙ sym e.quiet.asked;
      gone = was.gone ∙ ap (λ k. apps_of k.past.items) (sym e.closes);
      came = ∥∥₁_map was.came (all-came was.clients c.close.new.self e.still was.door);
    }

pub returns-in_err-app-clause-none : goal.returns-in_err-app-clause-none
returns-in_err-app-clause-none g c =
    let e = c.in_err-app.ensures in
    of-none c.from_residual.result _ c.from_residual.ensures
    ((e.closes, λ may. may), subst (λ k. (d : _) → ¬ IsClientAt k.places.items c.args.place d) (sym e.closes) e.nobody)

pub returns-in_err-app-clause-gives : goal.returns-in_err-app-clause-gives
returns-in_err-app-clause-gives g c =
    let e = c.in_err-app.ensures in
    rw c.from_residual.ensures (
      e.same.number,
      e.same.seed,
      ap (λ k. k.past.items) e.closes,
      e.quiet.asked,
      e.quiet.told,
      refl,
      λ tied. ∥∥₁_map tied e.tied,
    )
