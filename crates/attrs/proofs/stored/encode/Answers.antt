use Rattle.std.proofs.Common.{arith}
use Rattle.attrs.specs.ObjectLaws.{IsSmall, IsObject-small}
use Rattle.attrs.specs.StoredLaws.{entry_small}
use Rattle.attrs.proofs.stored.encode.Goals as goal

pub overflow_cast-entries : goal.overflow_cast-entries
overflow_cast-entries c =
    let few = (IsObject-small c.args.object.now c.entries-entries.ensures.object).1 in
    rw c.entries-entries.ensures.entries (omega (arith, few))

pub encode_entry-requires-clause-number : goal.encode_entry-requires-clause-number
encode_entry-requires-clause-number c =
    let small : IsSmall c.entry-item.result =
    entry_small c.args.object.now c.entries-entries.result.now c.loop-entry.entry-index c.entry-item.result
    c.entries-entries.ensures.entries c.entries-entries.ensures.object c.loop-entry-test.true c.entry-item.is in
    omega (arith, small.number_small)

pub encode_entry-requires-clause-value : goal.encode_entry-requires-clause-value
encode_entry-requires-clause-value c =
    let small : IsSmall c.entry-item.result =
    entry_small c.args.object.now c.entries-entries.result.now c.loop-entry.entry-index c.entry-item.result
    c.entries-entries.ensures.entries c.entries-entries.ensures.object c.loop-entry-test.true c.entry-item.is in
    omega (arith, small.value_small)
