use Rattle.std.proofs.Common.{◌≡◌, ◌++◌, ◌∷◌, length, take}
use Rattle.std.specs.Int.{w16, to_be_bytes}
use Rattle.std.specs.List.{flat_map}
use Rattle.attrs.specs.Stored.{stored_entry}
use Rattle.attrs.proofs.stored.encode.Given as goal

abbrev pub invariant-loop-entry : goal.invariant-loop-entry
invariant-loop-entry l = l.out.items ≡ (2 ∷ to_be_bytes w16 (length l.entries))
    ++ flat_map stored_entry.encode (take l.entry-index l.entries)
