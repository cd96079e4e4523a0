-- Blocks by the planes of their bits.
use Rattle.std.specs.Prelude.{◌≡◌, ℕ, List, [], ◌∷◌, map, slice_index_or, bit_xor}
use Rattle.fips_197.specs.Field.{bit}
use Rattle.aes_planes.specs.declared.planes.Eight.{Eight}

-- vector j of eight
unfoldable pub vector_of : Eight → ℕ → List ℕ
vector_of s j = slice_index_or (s.v0 ∷ s.v1 ∷ s.v2 ∷ s.v3 ∷ s.v4 ∷ s.v5 ∷ s.v6 ∷ s.v7 ∷ []) j []

-- bit j of each byte
unfoldable pub bits_at : ℕ → List ℕ → List ℕ
bits_at j bytes = map (λ b. bit b j) bytes

-- block j of eight planes is x: bit j of each byte of plane i is bit i of that byte of x
pub record IsSliced (s : Eight) (j : ℕ) (x : List ℕ) : Type 0 where
  pub bit0 : bits_at j s.v0 ≡ bits_at 0 x
  pub bit1 : bits_at j s.v1 ≡ bits_at 1 x
  pub bit2 : bits_at j s.v2 ≡ bits_at 2 x
  pub bit3 : bits_at j s.v3 ≡ bits_at 3 x
  pub bit4 : bits_at j s.v4 ≡ bits_at 4 x
  pub bit5 : bits_at j s.v5 ≡ bits_at 5 x
  pub bit6 : bits_at j s.v6 ≡ bits_at 6 x
  pub bit7 : bits_at j s.v7 ≡ bits_at 7 x

-- each byte with 0x63 added, the constant of the S-box's affine map
unfoldable pub with_constant : List ℕ → List ℕ
with_constant x = map (λ b. bit_xor b 0x63) x
