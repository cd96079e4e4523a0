use Rattle.std.proofs.Common.{◌≤◌, length, arith}
use Rattle.attrs.specs.ObjectLaws.{IsSmall, IsObject-small}
use Rattle.attrs.specs.StoredLaws.{entry_small, size_more}
use Rattle.attrs.proofs.stored.size.Goals as goal

pub overflow_add-total : goal.overflow_add-total
overflow_add-total c =
    let small : IsSmall c.entry-item.result =
    entry_small c.args.object.now c.entries-entry-items.result.now c.loop-entry.entry-index c.entry-item.result
    c.entries-entry-items.ensures.entries c.entries-entry-items.ensures.object c.loop-entry-test.true c.entry-item.is in
    omega (arith, small.value_small, c.len.ensures)

pub overflow_add-total-in-loop-entry : goal.overflow_add-total-in-loop-entry
overflow_add-total-in-loop-entry c =
    let small : IsSmall c.entry-item.result =
    entry_small c.args.object.now c.entries-entry-items.result.now c.loop-entry.entry-index c.entry-item.result
    c.entries-entry-items.ensures.entries c.entries-entry-items.ensures.object c.loop-entry-test.true c.entry-item.is in
    let few : length c.entries-entry-items.result.now ≤ 28 =
    rw c.entries-entry-items.ensures.entries (IsObject-small c.args.object.now c.entries-entry-items.ensures.object).1 in
    omega (arith, small.value_small, c.len.ensures, few, c.loop-entry.invariant.bounded, c.loop-entry-test.true)

pub loop-entry-preserved : goal.loop-entry-preserved
loop-entry-preserved c =
    let small : IsSmall c.entry-item.result =
    entry_small c.args.object.now c.entries-entry-items.result.now c.loop-entry.entry-index c.entry-item.result
    c.entries-entry-items.ensures.entries c.entries-entry-items.ensures.object c.loop-entry-test.true c.entry-item.is in
    let more = size_more c.entries-entry-items.result.now c.loop-entry.entry-index c.entry-item.result c.loop-entry-test.true
    c.entry-item.is in
    record {
      sums = omega (arith, more, c.loop-entry.invariant.sums, c.len.ensures);
      bounded = omega (arith, small.value_small, c.len.ensures, c.loop-entry.invariant.bounded);
    }
