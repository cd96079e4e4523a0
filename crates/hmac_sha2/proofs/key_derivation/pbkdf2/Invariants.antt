use Rattle.std.proofs.Common.{◌≡◌}
use Rattle.hmac_sha2.specs.Hmac.{hmac256}
use Rattle.hmac_sha2.specs.Pbkdf2.{iterate, block}
use Rattle.hmac_sha2.proofs.key_derivation.pbkdf2.Given as goal

abbrev pub invariant-rounds : goal.invariant-rounds
invariant-rounds l = record {
  last : l.iterate ≡ iterate hmac256 l.password l.salt 1 l._round;
  total : l.sum ≡ block hmac256 l.password l.salt l._round 1;
}
