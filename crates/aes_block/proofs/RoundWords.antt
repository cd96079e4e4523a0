-- A step on four words is the definition's step on their bytes.
use Rattle.std.proofs.Common.{◌≡◌, ℕ, ◌/◌, ◌%◌, ◌^◌, ◌<◌, List, [], ◌∷◌, ◌++◌, length, bit_xor, ap, refl, sym, ◌∙◌, arith}
use Rattle.std.proofs.lemmas.Nat.{xor_shr, xor_mod}
use Rattle.fips_197.specs.Bytes.{AreBytes, IsBlock, xor_bytes}
use Rattle.fips_197.specs.SBox.{s_box, inverse_s_box}
use Rattle.fips_197.specs.State.{byte_at, state, column, columns}
use Rattle.fips_197.specs.WordPolynomial.{word_product, matrix_column, multiples}
use Rattle.fips_197.specs.Cipher.{substitute_bytes, shift_rows, multiply_columns, mix_polynomial, mix_columns}
use Rattle.fips_197.specs.InverseCipher.{inverse_substitute_bytes, inverse_shift_rows, inverse_mix_polynomial, inverse_mix_columns}
use Rattle.aes_block.specs.Words.{word_bytes, state_bytes, diagonal}
use Rattle.aes_block.specs.declared.state.State.{State}
use Rattle.fips_197.proofs.SBoxLaws.{inverse_s_box-s_box}
use Rattle.fips_197.proofs.Blocks.{AreBytes-four, AreBytes-append}
use Rattle.fips_197.proofs.WordProducts.{word_product-columns}

-- the bytes of the exclusive or of two words
pub word_bytes-xor : (x y : ℕ) → word_bytes (bit_xor x y) ≡ xor_bytes (word_bytes x) (word_bytes y)
unfolding xor_bytes word_bytes
word_bytes-xor x y = simp (xor_shr, xor_mod)

-- and of two states
pub state_bytes-xor : (x k s : State) → s.0 ≡ bit_xor x.0 k.0 → s.1 ≡ bit_xor x.1 k.1 → s.2 ≡ bit_xor x.2 k.2 → s.3
    ≡ bit_xor x.3 k.3
    → state_bytes s ≡ xor_bytes (state_bytes x) (state_bytes k)
unfolding state_bytes word_bytes xor_bytes
state_bytes-xor x k s e0 e1 e2 e3 = simp (e0, e1, e2, e3, xor_shr, xor_mod)

pub AreBytes-word_bytes : (w : ℕ) → AreBytes (word_bytes w)
unfolding word_bytes
AreBytes-word_bytes w =
    AreBytes-four (w / 2 ^ 24 % 2 ^ 8) (w / 2 ^ 16 % 2 ^ 8) (w / 2 ^ 8 % 2 ^ 8) (w % 2 ^ 8) (omega arith) (omega arith)
    (omega arith) (omega arith)

length-state_bytes : (s : State) → length (state_bytes s) ≡ 16
unfolding state_bytes word_bytes
length-state_bytes s = refl

AreBytes-state_bytes : (s : State) → AreBytes (state_bytes s)
unfolding state_bytes
AreBytes-state_bytes s =
    AreBytes-append (word_bytes s.0) (word_bytes s.1 ++ (word_bytes s.2 ++ word_bytes s.3)) (AreBytes-word_bytes s.0)
    (AreBytes-append (word_bytes s.1) (word_bytes s.2 ++ word_bytes s.3) (AreBytes-word_bytes s.1)
    (AreBytes-append (word_bytes s.2) (word_bytes s.3) (AreBytes-word_bytes s.2) (AreBytes-word_bytes s.3)))

pub IsBlock-state_bytes : (s : State) → IsBlock (state_bytes s)
IsBlock-state_bytes s = record { size = length-state_bytes s; bytes = AreBytes-state_bytes s }

-- the column that four table entries add up to
pub mixed_column-of : (p : List ℕ) (m0 m1 m2 m3 a b c d : ℕ)
    → word_bytes m0 ≡ multiples (matrix_column p 0) a → word_bytes m1 ≡ multiples (matrix_column p 1) b
    → word_bytes m2 ≡ multiples (matrix_column p 2) c → word_bytes m3 ≡ multiples (matrix_column p 3) d
    → word_bytes (bit_xor (bit_xor (bit_xor m0 m1) m2) m3) ≡ word_product p (a ∷ b ∷ c ∷ d ∷ [])
mixed_column-of p m0 m1 m2 m3 a b c d e0 e1 e2 e3 =
    word_bytes-xor (bit_xor (bit_xor m0 m1) m2) m3
    ∙ (λ i. xor_bytes (word_bytes-xor (bit_xor m0 m1) m2 i) (e3 i))
    ∙ (λ i. xor_bytes (xor_bytes (word_bytes-xor m0 m1 i) (e2 i)) (multiples (matrix_column p 3) d))
    ∙ (λ i. xor_bytes (xor_bytes (xor_bytes (e0 i) (e1 i)) (multiples (matrix_column p 2) c)) (multiples (matrix_column p 3) d))
    ∙ sym (word_product-columns p a b c d)

pub substituted_diagonal : (a b c d p q r s : ℕ) → p ≡ a / 2 ^ 24 % 2 ^ 8 → q ≡ b / 2 ^ 16 % 2 ^ 8 → r
    ≡ c / 2 ^ 8 % 2 ^ 8 → s ≡ d % 2 ^ 8
    → s_box p ∷ s_box q ∷ s_box r ∷ s_box s ∷ [] ≡ substitute_bytes (diagonal a b c d)
unfolding substitute_bytes diagonal
substituted_diagonal a b c d p q r s ep eq er es = λ i. s_box (ep i) ∷ s_box (eq i) ∷ s_box (er i) ∷ s_box (es i) ∷ []

pub inverse_substituted_diagonal : (a b c d p q r s : ℕ) → p ≡ a / 2 ^ 24 % 2 ^ 8 → q ≡ b / 2 ^ 16 % 2 ^ 8 → r
    ≡ c / 2 ^ 8 % 2 ^ 8 → s ≡ d % 2 ^ 8
    → inverse_s_box p ∷ inverse_s_box q ∷ inverse_s_box r ∷ inverse_s_box s ∷ [] ≡ inverse_substitute_bytes (diagonal a b c d)
unfolding inverse_substitute_bytes diagonal
inverse_substituted_diagonal a b c d p q r s ep eq er es =
    λ i. inverse_s_box (ep i) ∷ inverse_s_box (eq i) ∷ inverse_s_box (er i) ∷ inverse_s_box (es i) ∷ []

-- ShiftRows makes columns of diagonals
pub shifted_state : (x m : State)
    → word_bytes m.0 ≡ substitute_bytes (diagonal x.0 x.1 x.2 x.3) → word_bytes m.1 ≡ substitute_bytes (diagonal x.1 x.2 x.3 x.0)
    → word_bytes m.2 ≡ substitute_bytes (diagonal x.2 x.3 x.0 x.1) → word_bytes m.3 ≡ substitute_bytes (diagonal x.3 x.0 x.1 x.2)
    → state_bytes m ≡ shift_rows (substitute_bytes (state_bytes x))
unfolding state_bytes word_bytes diagonal shift_rows state byte_at substitute_bytes
shifted_state x m e0 e1 e2 e3 = λ i. e0 i ++ (e1 i ++ (e2 i ++ e3 i))

pub mixed_state : (x m : State)
    → word_bytes m.0 ≡ word_product mix_polynomial (substitute_bytes (diagonal x.0 x.1 x.2 x.3))
    → word_bytes m.1 ≡ word_product mix_polynomial (substitute_bytes (diagonal x.1 x.2 x.3 x.0))
    → word_bytes m.2 ≡ word_product mix_polynomial (substitute_bytes (diagonal x.2 x.3 x.0 x.1))
    → word_bytes m.3 ≡ word_product mix_polynomial (substitute_bytes (diagonal x.3 x.0 x.1 x.2))
    → state_bytes m ≡ mix_columns (shift_rows (substitute_bytes (state_bytes x)))
unfolding state_bytes word_bytes diagonal mix_columns multiply_columns columns column shift_rows state byte_at substitute_bytes
mixed_state x m e0 e1 e2 e3 = λ i. e0 i ++ (e1 i ++ (e2 i ++ e3 i))

-- and InvShiftRows of the other diagonals
pub inverse_shifted_state : (x m : State)
    → word_bytes m.0 ≡ inverse_substitute_bytes (diagonal x.0 x.3 x.2 x.1) → word_bytes m.1
    ≡ inverse_substitute_bytes (diagonal x.1 x.0 x.3 x.2)
    → word_bytes m.2 ≡ inverse_substitute_bytes (diagonal x.2 x.1 x.0 x.3) → word_bytes m.3
    ≡ inverse_substitute_bytes (diagonal x.3 x.2 x.1 x.0)
    → state_bytes m ≡ inverse_shift_rows (inverse_substitute_bytes (state_bytes x))
unfolding state_bytes word_bytes diagonal inverse_shift_rows state byte_at inverse_substitute_bytes
inverse_shifted_state x m e0 e1 e2 e3 = λ i. e0 i ++ (e1 i ++ (e2 i ++ e3 i))

pub inverse_mixed_state : (x m : State)
    → word_bytes m.0 ≡ word_product inverse_mix_polynomial (inverse_substitute_bytes (diagonal x.0 x.3 x.2 x.1))
    → word_bytes m.1 ≡ word_product inverse_mix_polynomial (inverse_substitute_bytes (diagonal x.1 x.0 x.3 x.2))
    → word_bytes m.2 ≡ word_product inverse_mix_polynomial (inverse_substitute_bytes (diagonal x.2 x.1 x.0 x.3))
    → word_bytes m.3 ≡ word_product inverse_mix_polynomial (inverse_substitute_bytes (diagonal x.3 x.2 x.1 x.0))
    → state_bytes m ≡ inverse_mix_columns (inverse_shift_rows (inverse_substitute_bytes (state_bytes x)))
unfolding state_bytes word_bytes diagonal inverse_mix_columns multiply_columns columns column inverse_shift_rows state byte_at
    inverse_substitute_bytes
inverse_mixed_state x m e0 e1 e2 e3 = λ i. e0 i ++ (e1 i ++ (e2 i ++ e3 i))

-- a byte through the S-box and back
pub through_s_box : (b s y : ℕ) → b ≡ y → s ≡ s_box b → y < 256 → inverse_s_box s ≡ y
through_s_box b s y same boxed lt = ap inverse_s_box (boxed ∙ ap s_box same) ∙ inverse_s_box-s_box y lt
