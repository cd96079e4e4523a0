use Rattle.std.proofs.Common.{arith, ap, ◌∙◌}
use Rattle.serve_objects.proofs.Numbering.{left-one, room-more, below-more, may-more, may-rest, given-more, numbers-more}
use Rattle.serve_objects.proofs.giving.give_handles.Goals as goal

pub give_one-requires-clause-below : goal.give_one-requires-clause-below
give_one-requires-clause-below c =
    let n = left-one c.args.matches.now c.loop-found.found-index c.loop-found-test.true in
    let below = c.loop-found.invariant.below in
    omega (arith, n, below)

pub give_one-requires-clause-room : goal.give_one-requires-clause-room
give_one-requires-clause-room c =
    let n = left-one c.args.matches.now c.loop-found.found-index c.loop-found-test.true in
    let room = c.loop-found.invariant.room in
    omega (arith, n, room)

pub give_one-requires-clause-may : goal.give_one-requires-clause-may
give_one-requires-clause-may c =
    (may-more c.args.matches.now c.loop-found.found-index _ c.loop-found-test.true _ c.loop-found.invariant.may).0

pub loop-found-preserved : goal.loop-found-preserved
loop-found-preserved c =
    let ms = c.args.matches.now in
    let i = c.loop-found.found-index in
    let t = c.loop-found.desk.handles in
    let kept = c.loop-found.invariant in
    let n = left-one ms i c.loop-found-test.true in
    let free = kept.free in
    let len = c.push_reserved.ensures.len in
    let capacity = c.push_reserved.ensures.capacity in
    record {
      below = rw c.give_one.ensures.given (below-more ms i _ c.loop-found-test.true t kept.below);
      room = rw c.give_one.ensures.given (room-more ms i _ c.loop-found-test.true t kept.room);
      free = omega (arith, n, free, len, capacity);
      may = rw c.give_one.ensures.given (may-rest _ ms i c.loop-found-test.true kept.may);
      given = rw c.give_one.ensures.given
          (ap (λ h. record c.loop-found.desk { handles = h }) (given-more ms i _ c.loop-found-test.true t) ∙ kept.given);
      numbers = rw (c.give_one.ensures.given, c.push_reserved.ensures.items, c.give_one.ensures.number)
          (numbers-more ms i _ c.loop-found-test.true t c.loop-found.handles.items ∙ kept.numbers);
    }
