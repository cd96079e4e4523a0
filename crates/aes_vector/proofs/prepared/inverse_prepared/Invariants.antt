use Rattle.std.proofs.Common.{◌≡◌, ℕ, ◌-◌, ◌<◌, ◌≤◌, map}
use Rattle.fips_197.specs.Cipher.{round_key}
use Rattle.fips_197.specs.InverseCipher.{inverse_mix_columns}
use Rattle.aes_vector.specs.Halves.{inverse_basis}
use Rattle.aes_vector.proofs.prepared.inverse_prepared.Given as goal

-- the round keys so far are those of the schedule, from its end
abbrev pub invariant-middle : goal.invariant-middle
invariant-middle l = record {
  first : round_key l.keys 0 ≡ map inverse_basis (round_key l.schedule l.fn.rounds);
  so_far : (q : ℕ) → q < l.i → 1 ≤ q
      → round_key l.keys q ≡ map inverse_basis (inverse_mix_columns (round_key l.schedule (l.fn.rounds - q)));
}
