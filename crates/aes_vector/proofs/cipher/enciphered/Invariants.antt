use Rattle.std.proofs.Common.{◌≡◌, ◌-◌, ℕ, List, map}
use Rattle.fips_197.specs.Bytes.{IsBlock}
use Rattle.fips_197.specs.Cipher.{state_after}
use Rattle.aes_vector.specs.Halves.{basis}
use Rattle.aes_vector.specs.Prepared.{ArePrepared}
use Rattle.aes_vector.proofs.cipher.enciphered.Given as goal

abbrev pub invariant-rounds : goal.invariant-rounds
invariant-rounds l =
    (w : List ℕ) → ArePrepared l.keys l.fn.rounds w
    → IsBlock (state_after w l.fn.block (l.r - 1)) × (l.x ≡ map basis (state_after w l.fn.block (l.r - 1)))
