use Rattle.std.proofs.Common.{◌≡◌, ℕ, ◌<◌, ◌≤◌, map, bit_xor}
use Rattle.fips_197.specs.Cipher.{round_key}
use Rattle.aes_vector.specs.Halves.{basis}
use Rattle.aes_vector.proofs.prepared.prepared.Given as goal

-- the round keys so far are those of the schedule
abbrev pub invariant-middle : goal.invariant-middle
invariant-middle l = record {
  first : round_key l.keys 0 ≡ map basis (round_key l.schedule 0);
  so_far : (q : ℕ) → q < l.r → 1 ≤ q → round_key l.keys q ≡ map (λ b. basis (bit_xor b 0x63)) (round_key l.schedule q);
}
