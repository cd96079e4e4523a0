use Rattle.std.proofs.Common.{refl, arith}
use Rattle.line_places.proofs.Changing.{kept-new, more-places}
use Rattle.line_places.proofs.Doing.{none-at}
use Rattle.line_places.proofs.places.Places.new.Goals as goal

pub invariant_of-result : goal.invariant_of-result
invariant_of-result g c = record {
  worker = c.requires.number;
  count = omega (arith, c.places.invariant.0, c.requires.count);
  kept = ∣ kept-new c.args.seed c.args.number c.places.places.items c.new.result.items c.new-2.result.items c.new-3.result.items
      c.new.ensures c.new-2.ensures c.new-3.ensures c.places.invariant.1 ∣₁;
}

pub places-preserved : goal.places-preserved
places-preserved g c = more-places c.places.places.items c.push.new.self.items _ c.places.place c.places.invariant
    c.in_ok-push.ensures.items refl

pub returns-clause-empty : goal.returns-clause-empty
returns-clause-empty g c j d it = none-at c.places.places.items j it.place d it.at (c.places.invariant.1 j it.place it.at) it
