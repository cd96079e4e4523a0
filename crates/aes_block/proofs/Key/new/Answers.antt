use Rattle.std.proofs.Common.{refl}
use Rattle.aes_block.proofs.StoredKeys.{IsExpanded-made, key_bytes-made}
use Rattle.aes_block.proofs.Key.new.Goals as goal

pub invariant_of-result : goal.invariant_of-result
invariant_of-result c =
    let length = c.in_ok-rounds.ensures in
    IsExpanded-made _ c.args.bytes.now
    (length.some.0 refl) length.value c.expanded-schedule.ensures c.inverse_mixed-inverse_schedule.ensures

pub returns-clause-value : goal.returns-clause-value
returns-clause-value c =
    let length = c.in_ok-rounds.ensures in
    key_bytes-made _ c.args.bytes.now (length.some.0 refl) length.value c.expanded-schedule.ensures
