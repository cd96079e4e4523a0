use Rattle.std.proofs.Common.{ap, refl, subst, sym, ◌∙◌, ◌++◌, ◌∷◌, []}
use Rattle.line_places.specs.Tying.{AllTied}
use Rattle.std.proofs.Math.Logic.{∥∥₁_map}
use Rattle.line_places.proofs.Arriving.{all-came}
use Rattle.hall_sockets.specs.Telling.{apps_of, calls_in, gone_in}
use Rattle.hall_sockets.proofs.Staying.{calls-call, from-now, gives-after, gone-call, gone-same, owed-as}
use Rattle.hall_sockets.proofs.seat.SocketSeat.event_at.Goals as goal

pub next_call-requires-clause-may : goal.next_call-requires-clause-may
next_call-requires-clause-may g c =
    from-now g.S.Socket.given (g.N.Licence.allows c.args.licence.now) c.args.self.now c.requires.may c.args.place

pub invariant_of-self : goal.invariant_of-self
invariant_of-self g c =
    let was = c.args.self.now in
    let e = c.in-Call.ensures in
    record {
      calls = ap calls_in c.push.ensures ∙ calls-call was.asked.items c.in-Call.call ∙ ap (λ l. l ++ c.in-Call.call ∷ []) was.calls
          ∙ sym e.gives.1;
      came = ∥∥₁_map was.came (all-came was.clients c.next_call.new.self e.still was.door);
      gone = ap gone_in c.push.ensures ∙ gone-call was.asked.items c.in-Call.call ∙ was.gone ∙ ap apps_of (sym e.past);
    }

pub returns-in-Call : goal.returns-in-Call
returns-in-Call g c =
    let was = c.args.self.now in
    let e = c.in-Call.ensures in
    let n = c.begin_call.ensures.rests in (
      ap (λ k. k.number) n.0 ∙ e.same.number,
      ap (λ k. k.seed) n.0 ∙ e.same.seed,
      ap (λ k. k.told.items) n.0 ∙ e.gives.2,
      n.1 ∙ c.push.ensures,
      e.gives.0,
      (
        owed-as c.begin_call.new.self.clients.places.items c.next_call.new.self.places.items c.begin_call.new.self.called_place c.args.place
            c.in-Call.call.app (ap (λ x. x.places.items) n.0) c.begin_call.ensures.called_place e.gives.3,
        e.short,
      ),
      gone-same was.clients.past.items c.begin_call.new.self.clients.past.items (ap (λ k. k.past.items) n.0 ∙ e.past),
      λ tied. subst (λ k. ∥ AllTied g.S.Socket.given (λ r. r) (λ w. w) k.places.items k.past.items ∥₁) (sym n.0) (∥∥₁_map tied e.tied),
    )

pub invariant_of-self-in-Nothing : goal.invariant_of-self-in-Nothing
invariant_of-self-in-Nothing g c =
    let was = c.args.self.now in
    let e = c.in-Nothing.ensures in
    record {
      calls = was.calls ∙ sym e.gives.asked;
      gone = was.gone ∙ ap apps_of (sym e.past);
      came = ∥∥₁_map was.came (all-came was.clients c.next_call.new.self e.still was.door);
    }

pub invariant_of-self-in-Ended-1 : goal.invariant_of-self-in-Ended-1
invariant_of-self-in-Ended-1 g c =
    let was = c.args.self.now in
    let e = c.in-Ended.ensures in
    record {
      calls = was.calls ∙ sym e.gives.asked;
      gone = was.gone ∙ ap apps_of (sym e.past);
      came = ∥∥₁_map was.came (all-came was.clients c.next_call.new.self e.still was.door);
    }

pub returns-in-Nothing : goal.returns-in-Nothing
returns-in-Nothing g c =
    let e = c.in-Nothing.ensures in
    let w = c.watch.ensures in (
      ap (λ k. k.number) w.0 ∙ e.same.number,
      ap (λ k. k.seed) w.0 ∙ e.same.seed,
      ap (λ k. k.past.items) w.0 ∙ e.past,
      ap (λ k. k.asked.items) w.0 ∙ e.gives.asked,
      ap (λ k. k.told.items) w.0 ∙ e.gives.told,
      w.1,
      λ tied. subst (λ k. ∥ AllTied g.S.Socket.given (λ r. r) (λ w. w) k.places.items k.past.items ∥₁) (sym w.0) (∥∥₁_map tied e.tied),
    )

pub returns-in-Ended : goal.returns-in-Ended
returns-in-Ended g c =
    let was = c.args.self.now in
    let e = c.in-Ended.ensures in
    let between = record (was) {
      clients = c.next_call.new.self;
      calls = was.calls ∙ sym e.gives.asked;
      gone = was.gone ∙ ap apps_of (sym e.past);
      came = ∥∥₁_map was.came (all-came was.clients c.next_call.new.self e.still was.door);
    } in
    gives-after g.S.Socket.given was between c.end.new.self c.end.result c.end.ensures.gives
    (e.same.number, e.same.seed, e.past, e.gives.asked, e.gives.told, refl, λ tied. ∥∥₁_map tied e.tied)
