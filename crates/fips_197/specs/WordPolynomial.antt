-- Polynomials with coefficients in the field (FIPS 197, 4.3): the word of the bytes a0, a1, a2, a3
-- is a3 x^3 + a2 x^2 + a1 x + a0.
use Rattle.std.specs.Prelude.{ℕ, ◌+◌, ◌-◌, ◌%◌, List, [], ◌∷◌, map, slice_index, bit_xor}
use Rattle.fips_197.specs.Field.{product}

-- coefficient i of the product of a and b modulo x^4 + 1 (4.3): since x^4 is 1 there, the sum of
-- the products of a's and b's coefficients whose indices add up to i modulo 4
unfoldable pub coefficient : List ℕ → List ℕ → ℕ → ℕ
coefficient a b i =
    bit_xor (bit_xor (bit_xor
    (product (slice_index a (i % 4)) (slice_index b 0))
    (product (slice_index a ((i + 3) % 4)) (slice_index b 1)))
    (product (slice_index a ((i + 2) % 4)) (slice_index b 2)))
    (product (slice_index a ((i + 1) % 4)) (slice_index b 3))

-- the product of a and b modulo x^4 + 1
unfoldable pub word_product : List ℕ → List ℕ → List ℕ
word_product a b =
    coefficient a b 0 ∷ coefficient a b 1 ∷ coefficient a b 2 ∷ coefficient a b 3 ∷ []

-- column j of the matrix that multiplies by the polynomial a modulo x^4 + 1 (FIPS 197, 4.3): a
-- times x^j
unfoldable pub matrix_column : List ℕ → ℕ → List ℕ
matrix_column a j =
    slice_index a ((4 - j) % 4) ∷ slice_index a ((5 - j) % 4)
    ∷ slice_index a ((6 - j) % 4) ∷ slice_index a ((7 - j) % 4) ∷ []

-- each of these coefficients times a byte
unfoldable pub multiples : List ℕ → ℕ → List ℕ
multiples a b = map (λ x. product x b) a
