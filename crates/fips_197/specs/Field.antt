-- The finite field of 256 elements (FIPS 197, 4). The byte with the bits b7, ..., b0 is the
-- polynomial b7 x^7 + ... + b1 x + b0, whose coefficients are 0 and 1 and add modulo 2. The sum of
-- two bytes is `bit_xor` (4.1).
use Rattle.std.specs.Prelude.{ℕ, zero, suc, ◌+◌, ◌*◌, ◌/◌, ◌%◌, ◌^◌, bit_xor, ◌==◌, if◌then◌else◌}

-- bit i of a number: the coefficient of x^i
unfoldable pub bit : ℕ → ℕ → ℕ
bit a i = a / 2 ^ i % 2

-- the terms of a at x^0, ..., x^(n - 1), times b, as polynomials
unfoldable pub terms_product : ℕ → ℕ → ℕ → ℕ
terms_product zero a b = 0
terms_product (suc n) a b = bit_xor (terms_product n a b) (bit a n * (b * 2 ^ n))

-- m(x) = x^8 + x^4 + x^3 + x + 1 (4.2)
abbrev pub modulus : ℕ
modulus = 0x11B

-- the remainder modulo m(x) of a polynomial of degree below 8 + n: from the highest power down,
-- m(x) times x^i is taken away where there is a term at x^(8 + i)
unfoldable pub remainder : ℕ → ℕ → ℕ
remainder zero a = a
remainder (suc n) a = remainder n (bit_xor a (bit a (8 + n) * (modulus * 2 ^ n)))

-- the product of two bytes: that of their polynomials, of degree below 15, modulo m(x) (4.2)
unfoldable pub product : ℕ → ℕ → ℕ
product a b = remainder 7 (terms_product 8 a b)

-- the greatest b below n whose product with a is 1, or 0 where there is none
unfoldable pub inverse_below : ℕ → ℕ → ℕ
inverse_below a zero = 0
inverse_below a (suc n) = if product a n == 1 then n else inverse_below a n

-- the multiplicative inverse of a byte (4.2), and 0 for 0
unfoldable pub inverse : ℕ → ℕ
inverse a = inverse_below a 256
