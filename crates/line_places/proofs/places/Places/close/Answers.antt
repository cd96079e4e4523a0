use Rattle.std.proofs.Common.{inr, refl, sym, ◌+◌, set, subst, arith}
use Rattle.std.proofs.Math.Logic.{∥∥₁_map}
use Rattle.line_places.specs.Keeping.{PlacesKeep}
use Rattle.line_places.proofs.Changing.{kept-close}
use Rattle.line_places.proofs.Doing.{at-index, bound-of, count-set, is-there, none-at}
use Rattle.line_places.proofs.Arriving.{come-set, past-goes}
use Rattle.line_places.proofs.Tying.{get_set_other, tied-close}
use Rattle.line_places.specs.Tying.{AllTied}
use Rattle.line_places.proofs.places.Places.close.Goals as goal

pub overflow_add-it : goal.overflow_add-it
overflow_add-it g c =
    let was = c.args.self.now in
    let p = c.index_mut-it.result.now in
    let at = at-index was.places.items c.args.place p (omega (arith, c.if-place-len.false, c.len.ensures)) c.index_mut-it.ensures.value in
    let bound = bound-of was.seed was.number was.places.items was.past.items was.asked.items was.told.items c.args.place p
    c.in-Some.client at (sym c.in-Some.ensures.value) was.kept in
    omega (arith, bound)

pub invariant_of-self-2 : goal.invariant_of-self-2
invariant_of-self-2 g c =
    let was = c.args.self.now in
    let p = c.index_mut-it.result.now in
    let at = at-index was.places.items c.args.place p (omega (arith, c.if-place-len.false, c.len.ensures)) c.index_mut-it.ensures.value in
    record {
      worker = was.worker;
      count = count-set was.places.items c.args.place _ was.count;
      kept = ∥∥₁_map was.kept (λ k.
          subst (λ l. PlacesKeep was.seed was.number
          (set was.places.items c.args.place
          (record { turn = p.turn + 1; client = c.take.new.self })) l was.asked.items was.told.items) (sym c.push.ensures)
          (kept-close was.seed was.number was.places.items was.past.items was.asked.items was.told.items k c.args.place p at _
          c.in-Some.client (sym c.in-Some.ensures.value) refl c.take.ensures.after));
    }

pub returns-clause-closes : goal.returns-clause-closes
returns-clause-closes g c =
    let was = c.args.self.now in
    let p = c.index_mut-it.result.now in
    let at = at-index was.places.items c.args.place p (omega (arith, c.if-place-len.false, c.len.ensures)) c.index_mut-it.ensures.value in (
      is-there was.seed was.number was.places.items was.past.items was.asked.items was.told.items c.args.place p c.in-Some.client at
          (sym c.in-Some.ensures.value) c.in-Some.client.app refl was.worker was.kept,
      (c.in-Some.client, c.push.ensures, refl, record { place = p; at = at; client = sym c.in-Some.ensures.value }),
    )

pub returns-in_default-clause-nobody : goal.returns-in_default-clause-nobody
returns-in_default-clause-nobody g c d it =
    let was = c.args.self.now in
    let p = c.index_mut-it.result.now in
    let at = at-index was.places.items c.args.place p (omega (arith, c.if-place-len.false, c.len.ensures)) c.index_mut-it.ensures.value in
    none-at was.places.items c.args.place p d at (sym c.in_default.ensures.value) it

pub returns-clause-still : goal.returns-clause-still
returns-clause-still g c =
    let was = c.args.self.now in
    let p = c.index_mut-it.result.now in
    let at = at-index was.places.items c.args.place p (omega (arith, c.if-place-len.false, c.len.ensures)) c.index_mut-it.ensures.value in
    come-set was.number was.places.items c.args.place p _ at (past-goes p _ refl)

pub returns-clause-others : goal.returns-clause-others
returns-clause-others g c =
    let was = c.args.self.now in
    λ i not. get_set_other was.places.items c.args.place i _ not

pub returns-clause-tied : goal.returns-clause-tied
returns-clause-tied g c =
    let was = c.args.self.now in
    let p = c.index_mut-it.result.now in
    let at = at-index was.places.items c.args.place p (omega (arith, c.if-place-len.false, c.len.ensures)) c.index_mut-it.ensures.value in
    λ all. subst (AllTied g.R.Source.given g.R.Source.reading g.W.Taker.writing
    (set was.places.items c.args.place (record { turn = p.turn + 1; client = c.take.new.self }))) (sym c.push.ensures)
    (tied-close g.R.Source.given g.R.Source.reading g.W.Taker.writing was.places.items was.past.items all c.args.place _
    c.in-Some.client (all c.in-Some.client
    (inr (c.args.place, record { place = p; at = at; client = sym c.in-Some.ensures.value }))) c.take.ensures.after)
