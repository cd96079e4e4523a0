use Rattle.std.proofs.Common.{◌≡◌, ◌-◌}
use Rattle.ck_types.specs.Format.{decode_many}
use Rattle.ck_types.proofs.Loop.{with_front}
use Rattle.attrs.specs.Stored.{stored_entry}
use Rattle.attrs.proofs.stored.decode_entries.Given as goal

abbrev pub invariant-loop : goal.invariant-loop
invariant-loop l = with_front l.entries.items (decode_many stored_entry (l.count - l.counter) l.rest)
    ≡ decode_many stored_entry l.count l.bytes
