-- The equivalent inverse cipher (FIPS 197, 5.3.5), which the code that decrypts follows. What
-- decrypting means is said without it, by the cipher alone.
use Rattle.std.specs.Prelude.{ℕ, zero, suc, ◌+◌, ◌-◌, ◌%◌, List, [], ◌∷◌, map}
use Rattle.fips_197.specs.SBox.{inverse_s_box}
use Rattle.fips_197.specs.State.{byte_at, state}
use Rattle.fips_197.specs.Cipher.{multiply_columns, round_key, add_round_key}

-- InvShiftRows (5.3.1): row r goes r places to the right, round its end
unfoldable pub inverse_shift_rows : List ℕ → List ℕ
inverse_shift_rows s = state (λ r c. byte_at s r ((c + 4 - r) % 4))

-- InvSubBytes (5.3.2): the inverse S-box at each byte
unfoldable pub inverse_substitute_bytes : List ℕ → List ℕ
inverse_substitute_bytes s = map inverse_s_box s

-- {0b} x^3 + {0d} x^2 + {09} x + {0e} (5.3.3), from its constant term up
abbrev pub inverse_mix_polynomial : List ℕ
inverse_mix_polynomial = 0x0E ∷ 0x09 ∷ 0x0D ∷ 0x0B ∷ []

-- InvMixColumns (5.3.3): each column times the inverse of a(x)
unfoldable pub inverse_mix_columns : List ℕ → List ℕ
inverse_mix_columns s = multiply_columns inverse_mix_polynomial s

-- a round of the equivalent inverse cipher under the round key k (5.3.5, figure 15)
unfoldable pub inverse_round : List ℕ → List ℕ → List ℕ
inverse_round k s =
    add_round_key (inverse_mix_columns (inverse_shift_rows (inverse_substitute_bytes s))) k

-- its final round
unfoldable pub inverse_last_round : List ℕ → List ℕ → List ℕ
inverse_last_round k s = add_round_key (inverse_shift_rows (inverse_substitute_bytes s)) k

-- the state after the last round key and i rounds, of n in all, under the key schedule w
unfoldable pub inverse_state_after : List ℕ → ℕ → List ℕ → ℕ → List ℕ
inverse_state_after w n block zero = add_round_key block (round_key w n)
inverse_state_after w n block (suc i) =
    inverse_round (inverse_mix_columns (round_key w (n - suc i))) (inverse_state_after w n block i)

-- EqInvCipher (5.3.5, figure 15) in n rounds, under the key schedule w
unfoldable pub inverse_cipher : List ℕ → ℕ → List ℕ → List ℕ
inverse_cipher w n block =
    inverse_last_round (round_key w 0) (inverse_state_after w n block (n - 1))
