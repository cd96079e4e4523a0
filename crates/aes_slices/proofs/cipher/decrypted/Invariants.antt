use Rattle.std.proofs.Common.{ℕ, ◌-◌, ◌<◌, List}
use Rattle.fips_197.specs.Bytes.{IsBlock}
use Rattle.fips_197.specs.InverseCipher.{inverse_state_after}
use Rattle.aes_planes.specs.Planes.{vector_of, IsSliced, with_constant}
use Rattle.aes_slices.specs.Rows.{in_rows}
use Rattle.aes_slices.specs.Keys.{ArePlanes}
use Rattle.aes_slices.proofs.cipher.decrypted.Given as goal

-- each block is in the state after the rounds so far, with 0x63 added, row after row
abbrev pub invariant-rounds : goal.invariant-rounds
invariant-rounds l =
    (w : List ℕ) → ArePlanes l.keys l.fn.rounds w → (j : ℕ) → j < 8
    → IsBlock (inverse_state_after w l.fn.rounds (vector_of l.fn.blocks j) (l.i - 1))
    × IsSliced l.s j (in_rows (with_constant (inverse_state_after w l.fn.rounds (vector_of l.fn.blocks j) (l.i - 1))))
