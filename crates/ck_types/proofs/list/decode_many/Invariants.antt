use Rattle.std.proofs.Common.{◌≡◌, ◌-◌}
use Rattle.ck_types.specs.Format.{decode_many}
use Rattle.ck_types.proofs.Loop.{with_front}
use Rattle.ck_types.proofs.list.decode_many.Given as goal

abbrev pub invariant-loop : goal.invariant-loop
invariant-loop g l = with_front l.values.items (decode_many g.T.Codec.format (l.count - l.counter) l.rest)
    ≡ decode_many g.T.Codec.format l.count l.bytes
