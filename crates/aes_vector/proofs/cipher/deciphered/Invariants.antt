use Rattle.std.proofs.Common.{◌≡◌, ◌-◌, ℕ, List, map}
use Rattle.fips_197.specs.Bytes.{IsBlock}
use Rattle.fips_197.specs.InverseCipher.{inverse_state_after}
use Rattle.aes_vector.specs.Halves.{inverse_basis}
use Rattle.aes_vector.specs.Prepared.{AreInversePrepared}
use Rattle.aes_vector.proofs.cipher.deciphered.Given as goal

abbrev pub invariant-inverse_rounds : goal.invariant-inverse_rounds
invariant-inverse_rounds l =
    (w : List ℕ) → AreInversePrepared l.keys l.fn.rounds w
    → IsBlock (inverse_state_after w l.fn.rounds l.fn.block (l.r - 1))
    × (l.x ≡ map inverse_basis (inverse_state_after w l.fn.rounds l.fn.block (l.r - 1)))
