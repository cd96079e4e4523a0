use Rattle.std.proofs.Common.{◌≡◌, ◌≤◌, ◌+◌, ◌*◌, length, take}
use Rattle.std.specs.List.{flat_map}
use Rattle.attrs.specs.Stored.{stored_entry}
use Rattle.attrs.proofs.stored.size.Given as goal

abbrev pub invariant-loop-entry : goal.invariant-loop-entry
invariant-loop-entry l = record {
  sums : l.total ≡ 3 + length (flat_map stored_entry.encode (take l.entry-index l.entry-items));
  bounded : l.total ≤ 3 + 1032 * l.entry-index;
}
