-- From planes back to blocks.
use Rattle.std.proofs.Common.{◌≡◌, ℕ, ◌<◌, List, get_or, ap, sym, ◌∙◌}
use Rattle.std.proofs.lemmas.List.{ext_get_or}
use Rattle.std.proofs.lemmas.Nat.Bits.{same_from_bits_below}
use Rattle.fips_197.specs.Bytes.{IsBlock}
use Rattle.fips_197.specs.Field.{bit}
use Rattle.fips_197.proofs.Blocks.{AreBytes-at}
use Rattle.aes_planes.specs.declared.planes.Eight.{Eight}
use Rattle.aes_planes.specs.Planes.{vector_of, bits_at, IsSliced}
use Rattle.aes_planes.proofs.Bits.{bit-index, each_of_eight}

-- blocks with the same bits
same_bits : (x y : List ℕ) → IsBlock x → IsBlock y → ((i : ℕ) → i < 8 → bits_at i x ≡ bits_at i y) → x ≡ y
unfolding bit
same_bits x y hx hy same =
    ext_get_or 0 x y (hx.size ∙ sym hy.size) (λ l lt.
    same_from_bits_below 8 (get_or x l 0) (get_or y l 0) (AreBytes-at x hx.bytes l) (AreBytes-at y hy.bytes l)
    (λ i below. bit-index i x l ∙ ap (λ s. get_or s l 0) (same i below) ∙ sym (bit-index i y l)))

-- plane i
bit_of : (s : Eight) (j : ℕ) (x : List ℕ) → IsSliced s j x → (i : ℕ) → i < 8 → bits_at j (vector_of s i) ≡ bits_at i x
unfolding vector_of
bit_of s j x is = each_of_eight (λ i. bits_at j (vector_of s i) ≡ bits_at i x)
    is.bit0 is.bit1 is.bit2 is.bit3 is.bit4 is.bit5 is.bit6 is.bit7

-- where t is s transposed, its vector j is block j of s
pub back : (s t : Eight) (j : ℕ) (y : List ℕ) → j < 8 → ((i : ℕ) → i < 8 → IsSliced t i (vector_of s i)) → IsSliced s j y
    → IsBlock (vector_of t j) → IsBlock y → vector_of t j ≡ y
back s t j y lt transposed is ht hy =
    same_bits (vector_of t j) y ht hy
    (λ i below. bit_of t i (vector_of s i) (transposed i below) j lt ∙ bit_of s j y is i below)
