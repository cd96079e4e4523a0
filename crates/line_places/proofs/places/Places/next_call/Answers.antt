use Rattle.std.proofs.Common.{◌≡◌, Some, refl, sym, arith}
use Rattle.std.specs.Prelude.{slice_get}
use Rattle.std.proofs.Math.Logic.{∥∥₁_map}
use Rattle.line_places.proofs.Doing.{at-index, count-set, did-call, did-nothing, is-there, owed-there}
use Rattle.line_places.proofs.Arriving.{come-set, past-stays}
use Rattle.line_places.proofs.Tying.{get_set_other, tied-went, went-at}
use Rattle.line_places.proofs.places.Places.next_call.Goals as goal
use Rattle.line_places.proofs.places.Places.next_call.Goals.{After-index_mut}

-- what is lent stands at its place
at-place : (g : _) (c : After-index_mut g) → slice_get c.args.self.now.places.items c.args.place ≡ Some c.index_mut.result.now
at-place g c = at-index c.args.self.now.places.items c.args.place c.index_mut.result.now
    (omega (arith, c.if-place-len.false, c.len.ensures)) c.index_mut.ensures.value

pub invariant_of-self-in-Call : goal.invariant_of-self-in-Call
invariant_of-self-in-Call g c =
    let was = c.args.self.now in
    let at = at-place g (goal.at.invariant_of-self-in-Call g c).After-index_mut in
    record {
      worker = was.worker;
      count = count-set was.places.items c.args.place _ was.count;
      kept = ∥∥₁_map was.kept
          (did-call was.seed was.number was.places.items was.past.items was.asked.items was.told.items c.args.place
          c.index_mut.result.now c.in-Some.client c.next_call.new.self at c.in-Some.is c.in-Call.ensures.same c.in-Call.call
          c.push.new.self.items c.in-Call.ensures.gave c.push.ensures);
    }

pub invariant_of-self-in-Nothing : goal.invariant_of-self-in-Nothing
invariant_of-self-in-Nothing g c =
    let was = c.args.self.now in
    let at = at-place g (goal.at.invariant_of-self-in-Nothing g c).After-index_mut in
    record {
      worker = was.worker;
      count = count-set was.places.items c.args.place _ was.count;
      kept = ∥∥₁_map was.kept
          (did-nothing was.seed was.number was.places.items was.past.items was.asked.items was.told.items c.args.place
          c.index_mut.result.now c.in-Some.client c.next_call.new.self at c.in-Some.is c.in-Nothing.ensures.same
          c.in-Nothing.ensures.gave.1 c.in-Nothing.ensures.gave.2);
    }

pub invariant_of-self-in-Ended-1 : goal.invariant_of-self-in-Ended-1
invariant_of-self-in-Ended-1 g c =
    let was = c.args.self.now in
    let at = at-place g (goal.at.invariant_of-self-in-Ended-1 g c).After-index_mut in
    record {
      worker = was.worker;
      count = count-set was.places.items c.args.place _ was.count;
      kept = ∥∥₁_map was.kept
          (did-nothing was.seed was.number was.places.items was.past.items was.asked.items was.told.items c.args.place
          c.index_mut.result.now c.in-Some.client c.next_call.new.self at c.in-Some.is c.in-Ended.ensures.same
          c.in-Ended.ensures.gave.2 c.in-Ended.ensures.gave.3);
    }

pub returns-in-Call-clause-gives : goal.returns-in-Call-clause-gives
returns-in-Call-clause-gives g c =
    let was = c.args.self.now in
    let at = at-place g (goal.at.returns-in-Call-clause-gives g c).After-index_mut in
    let gave = c.in-Call.ensures.gave in (
      is-there was.seed was.number was.places.items was.past.items was.asked.items was.told.items c.args.place
          c.index_mut.result.now c.in-Some.client at c.in-Some.is c.in-Call.call.app gave.0 was.worker was.kept,
      c.push.ensures,
      refl,
      owed-there was.seed was.number was.places.items was.past.items was.asked.items was.told.items c.args.place
          c.index_mut.result.now c.in-Some.client c.next_call.new.self at c.in-Some.is c.in-Call.ensures.same gave.2
          c.in-Call.call.app (sym gave.0),
    )

pub returns-in-Call-clause-went : goal.returns-in-Call-clause-went
returns-in-Call-clause-went g c =
    let was = c.args.self.now in
    let at = at-place g (goal.at.returns-in-Call-clause-went g c).After-index_mut in
    went-at g.R.Source.given g.R.Source.reading g.W.Taker.writing was.places.items was.past.items c.args.place
    c.index_mut.result.now c.in-Some.client c.next_call.new.self at c.in-Some.is _ c.in-Call.ensures.went

pub returns-in-Call-clause-still : goal.returns-in-Call-clause-still
returns-in-Call-clause-still g c =
    let was = c.args.self.now in
    let at = at-place g (goal.at.returns-in-Call-clause-still g c).After-index_mut in
    come-set was.number was.places.items c.args.place c.index_mut.result.now _ at
    (past-stays c.index_mut.result.now _ c.next_call.new.self refl refl)

pub returns-in-Call-clause-others : goal.returns-in-Call-clause-others
returns-in-Call-clause-others g c =
    let was = c.args.self.now in
    λ i not. get_set_other was.places.items c.args.place i _ not

pub returns-in-Call-clause-tied : goal.returns-in-Call-clause-tied
returns-in-Call-clause-tied g c =
    let was = c.args.self.now in
    let at = at-place g (goal.at.returns-in-Call-clause-tied g c).After-index_mut in
    λ all. tied-went g.R.Source.given g.R.Source.reading g.W.Taker.writing was.places.items was.past.items c.args.place
    c.index_mut.result.now c.in-Some.client c.next_call.new.self at c.in-Some.is c.in-Call.ensures.same.0 all _
    c.in-Call.ensures.went c.in-Call.ensures.given

pub returns-in-Nothing-clause-went : goal.returns-in-Nothing-clause-went
returns-in-Nothing-clause-went g c =
    let was = c.args.self.now in
    let at = at-place g (goal.at.returns-in-Nothing-clause-went g c).After-index_mut in
    went-at g.R.Source.given g.R.Source.reading g.W.Taker.writing was.places.items was.past.items c.args.place
    c.index_mut.result.now c.in-Some.client c.next_call.new.self at c.in-Some.is _ c.in-Nothing.ensures.went

pub returns-in-Nothing-clause-still : goal.returns-in-Nothing-clause-still
returns-in-Nothing-clause-still g c =
    let was = c.args.self.now in
    let at = at-place g (goal.at.returns-in-Nothing-clause-still g c).After-index_mut in
    come-set was.number was.places.items c.args.place c.index_mut.result.now _ at
    (past-stays c.index_mut.result.now _ c.next_call.new.self refl refl)

pub returns-in-Nothing-clause-others : goal.returns-in-Nothing-clause-others
returns-in-Nothing-clause-others g c =
    let was = c.args.self.now in
    λ i not. get_set_other was.places.items c.args.place i _ not

pub returns-in-Nothing-clause-tied : goal.returns-in-Nothing-clause-tied
returns-in-Nothing-clause-tied g c =
    let was = c.args.self.now in
    let at = at-place g (goal.at.returns-in-Nothing-clause-tied g c).After-index_mut in
    λ all. tied-went g.R.Source.given g.R.Source.reading g.W.Taker.writing was.places.items was.past.items c.args.place
    c.index_mut.result.now c.in-Some.client c.next_call.new.self at c.in-Some.is c.in-Nothing.ensures.same.0 all _
    c.in-Nothing.ensures.went c.in-Nothing.ensures.given

pub returns-in-Ended-clause-went : goal.returns-in-Ended-clause-went
returns-in-Ended-clause-went g c =
    let was = c.args.self.now in
    let at = at-place g (goal.at.returns-in-Ended-clause-went g c).After-index_mut in
    went-at g.R.Source.given g.R.Source.reading g.W.Taker.writing was.places.items was.past.items c.args.place
    c.index_mut.result.now c.in-Some.client c.next_call.new.self at c.in-Some.is _ c.in-Ended.ensures.went

pub returns-in-Ended-clause-still : goal.returns-in-Ended-clause-still
returns-in-Ended-clause-still g c =
    let was = c.args.self.now in
    let at = at-place g (goal.at.returns-in-Ended-clause-still g c).After-index_mut in
    come-set was.number was.places.items c.args.place c.index_mut.result.now _ at
    (past-stays c.index_mut.result.now _ c.next_call.new.self refl refl)

pub returns-in-Ended-clause-others : goal.returns-in-Ended-clause-others
returns-in-Ended-clause-others g c =
    let was = c.args.self.now in
    λ i not. get_set_other was.places.items c.args.place i _ not

pub returns-in-Ended-clause-tied : goal.returns-in-Ended-clause-tied
returns-in-Ended-clause-tied g c =
    let was = c.args.self.now in
    let at = at-place g (goal.at.returns-in-Ended-clause-tied g c).After-index_mut in
    λ all. tied-went g.R.Source.given g.R.Source.reading g.W.Taker.writing was.places.items was.past.items c.args.place
    c.index_mut.result.now c.in-Some.client c.next_call.new.self at c.in-Some.is c.in-Ended.ensures.same.0 all _
    c.in-Ended.ensures.went c.in-Ended.ensures.given
