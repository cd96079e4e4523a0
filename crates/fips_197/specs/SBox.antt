-- The S-box (FIPS 197, 5.1.1) and its inverse (5.3.2).
use Rattle.std.specs.Prelude.{ℕ, zero, suc, ◌+◌, ◌*◌, ◌%◌, ◌^◌}
use Rattle.fips_197.specs.Field.{bit, inverse}

-- the number whose bit i, for each i below n, is f i
unfoldable pub from_bits : (ℕ → ℕ) → ℕ → ℕ
from_bits f zero = 0
from_bits f (suc n) = from_bits f n + f n * 2 ^ n

-- the affine transformation (5.1.1, equation 5.1): bit i becomes the sum of the bits i, i + 4,
-- i + 5, i + 6 and i + 7, counted modulo 8, and of bit i of {63}
unfoldable pub affine : ℕ → ℕ
affine b = from_bits (λ i.
    (bit b i + bit b ((i + 4) % 8) + bit b ((i + 5) % 8) + bit b ((i + 6) % 8) + bit b ((i + 7) % 8)
    + bit 0x63 i) % 2) 8

-- the S-box: the inverse in the field, and then the affine transformation (5.1.1)
unfoldable pub s_box : ℕ → ℕ
s_box b = affine (inverse b)

-- the inverse of the affine transformation: bit i becomes the sum of the bits i + 2, i + 5 and
-- i + 7, counted modulo 8, and of bit i of {05}
unfoldable pub inverse_affine : ℕ → ℕ
inverse_affine b = from_bits (λ i.
    (bit b ((i + 2) % 8) + bit b ((i + 5) % 8) + bit b ((i + 7) % 8) + bit 0x05 i) % 2) 8

-- the inverse S-box: the inverse of the affine transformation, and then that in the field (5.3.2)
unfoldable pub inverse_s_box : ℕ → ℕ
inverse_s_box b = inverse (inverse_affine b)
