use Rattle.std.proofs.Common.{ℕ, ◌-◌, ◌<◌, List}
use Rattle.fips_197.specs.Bytes.{IsBlock}
use Rattle.fips_197.specs.Cipher.{state_after}
use Rattle.aes_planes.specs.Planes.{vector_of, IsSliced}
use Rattle.aes_slices.specs.Rows.{in_rows}
use Rattle.aes_slices.specs.Keys.{ArePlanes}
use Rattle.aes_slices.proofs.cipher.encrypted.Given as goal

-- each block is in the state after the rounds so far, row after row
abbrev pub invariant-rounds : goal.invariant-rounds
invariant-rounds l =
    (w : List ℕ) → ArePlanes l.keys l.fn.rounds w → (j : ℕ) → j < 8
    → IsBlock (state_after w (vector_of l.fn.blocks j) (l.r - 1))
    × IsSliced l.s j (in_rows (state_after w (vector_of l.fn.blocks j) (l.r - 1)))
