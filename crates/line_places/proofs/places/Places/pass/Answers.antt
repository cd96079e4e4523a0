use Rattle.std.proofs.Common.{inl, refl, arith}
use Rattle.std.proofs.Math.Logic.{∥∥₁_map}
use Rattle.line_places.proofs.Arriving.{come-here, come-set, next-at, next-some, past-goes}
use Rattle.line_places.proofs.Changing.{kept-pass}
use Rattle.line_places.proofs.Doing.{count-set}
use Rattle.line_places.proofs.Tying.{get_set_other, nobody-tied, tied-set}
use Rattle.line_places.proofs.places.Places.pass.Goals as goal

pub invariant_of-self : goal.invariant_of-self
invariant_of-self g c =
    let was = c.args.self.now in
    let n = next-some was.number was.places.items c.args.place c.next_app.result c.next_app.ensures.next c.is_none.ensures
    c.if-is_none.false in
    let p = c.index.result.now in
    let t = next-at was.number was.places.items c.args.place n.0 n.1 p c.index.ensures in
    record {
      worker = was.worker;
      count = count-set was.places.items c.args.place _ was.count;
      kept = ∥∥₁_map was.kept (λ k. kept-pass was.seed was.number was.places.items was.past.items was.asked.items was.told.items k
          c.args.place p t.0 _ t.1 refl refl);
    }

pub returns-clause-passes : goal.returns-clause-passes
returns-clause-passes g c = λ app next.
    let was = c.args.self.now in
    let p = c.index.result.now in
    let t = next-at was.number was.places.items c.args.place app next p c.index.ensures in
    come-here was.number was.places.items c.args.place p _ t.0 p.turn app (inl (omega arith)) t.3

pub returns-clause-still : goal.returns-clause-still
returns-clause-still g c =
    let was = c.args.self.now in
    let n = next-some was.number was.places.items c.args.place c.next_app.result c.next_app.ensures.next c.is_none.ensures
    c.if-is_none.false in
    let p = c.index.result.now in
    let t = next-at was.number was.places.items c.args.place n.0 n.1 p c.index.ensures in
    come-set was.number was.places.items c.args.place p _ t.0 (past-goes p _ refl)

pub returns-clause-others : goal.returns-clause-others
returns-clause-others g c = λ i not. get_set_other c.args.self.now.places.items c.args.place i _ not

pub returns-clause-tied : goal.returns-clause-tied
returns-clause-tied g c = λ all. tied-set g.R.Source.given g.R.Source.reading g.W.Taker.writing c.args.self.now.places.items
    c.args.self.now.past.items all c.args.place _ (λ d here. nobody-tied g.R.Source.given g.R.Source.reading g.W.Taker.writing d here)
