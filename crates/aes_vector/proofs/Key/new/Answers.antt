use Rattle.std.proofs.Common.{refl}
use Rattle.aes_vector.proofs.StoredKeys.{IsPrepared-made, key-made}
use Rattle.aes_vector.proofs.Key.new.Goals as goal

pub invariant_of-result : goal.invariant_of-result
invariant_of-result c =
    let length = c.in_ok-rounds.ensures in
    IsPrepared-made _ c.args.bytes.now c.expanded-schedule.result
    (record { size = length.some.0 refl; bytes = c.are_bytes.ensures }) length.value c.expanded-schedule.ensures
    c.prepared-keys.ensures c.inverse_prepared-inverse_keys.ensures

pub returns-clause-value : goal.returns-clause-value
returns-clause-value c =
    let length = c.in_ok-rounds.ensures in
    key-made _ c.args.bytes.now c.expanded-schedule.result
    (record { size = length.some.0 refl; bytes = c.are_bytes.ensures }) length.value c.expanded-schedule.ensures
    c.prepared-keys.ensures
