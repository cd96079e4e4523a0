use Rattle.std.proofs.Common.{inr, ap, refl, sym, subst, ◌∙◌}
use Rattle.std.proofs.Math.Logic.{∥∥₁_map}
use Rattle.line.specs.Words.{words_for}
use Rattle.line_places.specs.Tying.{Tied}
use Rattle.line_places.proofs.Arriving.{come-here, come-set, next-at, past-stays}
use Rattle.line_places.proofs.Changing.{kept-open}
use Rattle.line_places.proofs.Doing.{count-set, free}
use Rattle.line_places.proofs.Keeping.{same_some}
use Rattle.line_places.proofs.Tying.{get_set_other, new-tied, tied-set}
use Rattle.line_places.proofs.places.Places.open.Goals as goal

pub invariant_of-self : goal.invariant_of-self
invariant_of-self g c =
    let was = c.args.self.now in
    let p = c.index.result.now in
    let t = next-at was.number was.places.items c.args.place c.in-Some.app c.in-Some.ensures.next p c.index.ensures in
    let named = c.new.ensures.app ∙ ap (λ w. w.stream) c.for_app-words.ensures ∙ t.3 in
    let words = c.new.ensures.first ∙ c.for_app-words.ensures
    ∙ ap (words_for was.seed) (sym (c.new.ensures.app ∙ ap (λ w. w.stream) c.for_app-words.ensures)) in
    record {
      worker = was.worker;
      count = count-set was.places.items c.args.place _ was.count;
      kept = ∥∥₁_map was.kept (λ k.
          kept-open was.seed was.number was.places.items was.past.items was.asked.items was.told.items k c.args.place p t.0 _ t.1
          c.new.result refl refl named t.2 words c.new.ensures.asked c.new.ensures.told);
    }

pub returns-clause-comes : goal.returns-clause-comes
returns-clause-comes g c f =
    let was = c.args.self.now in
    let p = c.index.result.now in
    let t = next-at was.number was.places.items c.args.place c.in-Some.app c.in-Some.ensures.next p c.index.ensures in
    record {
      place = p;
      at = t.0;
      client = c.new.result;
      app = c.new.ensures.app ∙ ap (λ w. w.stream) c.for_app-words.ensures ∙ t.3;
      places = refl;
    }

pub returns-clause-refused : goal.returns-clause-refused
returns-clause-refused g c not =
    let was = c.args.self.now in
    let p = c.index.result.now in
    let t = next-at was.number was.places.items c.args.place c.in-Some.app c.in-Some.ensures.next p c.index.ensures in
    absurd (not (free was.places.items c.args.place p t.0 t.1 t.2))

pub returns-clause-come : goal.returns-clause-come
returns-clause-come g c = λ app next.
    let was = c.args.self.now in
    let p = c.index.result.now in
    let t = next-at was.number was.places.items c.args.place app next p c.index.ensures in
    come-here was.number was.places.items c.args.place p _ t.0 p.turn app (inr (refl, (c.new.result, refl))) t.3

pub returns-clause-still : goal.returns-clause-still
returns-clause-still g c =
    let was = c.args.self.now in
    let p = c.index.result.now in
    let t = next-at was.number was.places.items c.args.place c.in-Some.app c.in-Some.ensures.next p c.index.ensures in
    come-set was.number was.places.items c.args.place p _ t.0 (past-stays p _ c.new.result refl refl)

pub returns-clause-others : goal.returns-clause-others
returns-clause-others g c = λ i not. get_set_other c.args.self.now.places.items c.args.place i _ not

pub returns-clause-tied : goal.returns-clause-tied
returns-clause-tied g c = λ app next are all.
    let was = c.args.self.now in
    let p = c.index.result.now in
    let t = next-at was.number was.places.items c.args.place app next p c.index.ensures in
    let mine = next-at was.number was.places.items c.args.place c.in-Some.app c.in-Some.ensures.next p c.index.ensures in
    let named = c.new.ensures.app ∙ ap (λ w. w.stream) c.for_app-words.ensures ∙ mine.3 ∙ sym t.3 in
    tied-set g.R.Source.given g.R.Source.reading g.W.Taker.writing was.places.items was.past.items all c.args.place _
    (λ d here. subst (Tied g.R.Source.given g.R.Source.reading g.W.Taker.writing) (same_some c.new.result d here)
    (new-tied g.R.Source.given g.R.Source.reading g.W.Taker.writing c.new.result c.args.reader c.args.writer app named
    c.new.ensures.ends c.new.ensures.fresh are))
