-- The cipher (FIPS 197, 5.1) under a key schedule.
use Rattle.std.specs.Prelude.{ℕ, zero, suc, ◌+◌, ◌-◌, ◌*◌, ◌%◌, List, [], ◌∷◌, map, take, drop}
use Rattle.fips_197.specs.Bytes.{xor_bytes}
use Rattle.fips_197.specs.SBox.{s_box}
use Rattle.fips_197.specs.State.{byte_at, state, column, columns}
use Rattle.fips_197.specs.WordPolynomial.{word_product}

-- SubBytes (5.1.1): the S-box at each byte
unfoldable pub substitute_bytes : List ℕ → List ℕ
substitute_bytes s = map s_box s

-- ShiftRows (5.1.2): row r goes r places to the left, round its end
unfoldable pub shift_rows : List ℕ → List ℕ
shift_rows s = state (λ r c. byte_at s r ((c + r) % 4))

-- each column times a polynomial, modulo x^4 + 1
unfoldable pub multiply_columns : List ℕ → List ℕ → List ℕ
multiply_columns a s = columns (λ c. word_product a (column s c))

-- a(x) = {03} x^3 + {01} x^2 + {01} x + {02} (5.1.3, equation 5.5), from its constant term up
abbrev pub mix_polynomial : List ℕ
mix_polynomial = 0x02 ∷ 0x01 ∷ 0x01 ∷ 0x03 ∷ []

-- MixColumns (5.1.3): each column times a(x)
unfoldable pub mix_columns : List ℕ → List ℕ
mix_columns s = multiply_columns mix_polynomial s

-- the round key of round r: words 4 r to 4 r + 3 of the key schedule w (5.1.4)
unfoldable pub round_key : List ℕ → ℕ → List ℕ
round_key w r = take 16 (drop (16 * r) w)

-- AddRoundKey (5.1.4): the sum of the state and a round key
unfoldable pub add_round_key : List ℕ → List ℕ → List ℕ
add_round_key s k = xor_bytes s k

-- a round under the round key k (5.1, figure 5)
unfoldable pub round : List ℕ → List ℕ → List ℕ
round k s = add_round_key (mix_columns (shift_rows (substitute_bytes s))) k

-- the final round, which has no MixColumns
unfoldable pub last_round : List ℕ → List ℕ → List ℕ
last_round k s = add_round_key (shift_rows (substitute_bytes s)) k

-- the state after the first round key and r rounds
unfoldable pub state_after : List ℕ → List ℕ → ℕ → List ℕ
state_after w block zero = add_round_key block (round_key w 0)
state_after w block (suc r) = round (round_key w (suc r)) (state_after w block r)

-- Cipher (5.1, figure 5) in n rounds, under the key schedule w
unfoldable pub cipher : List ℕ → ℕ → List ℕ → List ℕ
cipher w n block = last_round (round_key w n) (state_after w block (n - 1))
