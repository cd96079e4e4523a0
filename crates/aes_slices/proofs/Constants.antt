-- What the steps of a round make of 0x63 added to each byte.
use Rattle.std.proofs.Common.{◌≡◌, ℕ, List, [], ◌∷◌, bit_xor, ap, refl, sym, subst, ◌∙◌, arith}
use Rattle.std.specs.Int.Bits.{xor_assoc, xor_self, xor_zero_r}
use Rattle.std.proofs.lemmas.Nat.{xor_comm, xor_lt}
use Rattle.fips_197.specs.Bytes.{IsBlock, xor_bytes}
use Rattle.fips_197.specs.Field.{bit, terms_product, remainder, product}
use Rattle.fips_197.specs.State.{byte_at, state, column, columns}
use Rattle.fips_197.specs.WordPolynomial.{coefficient, word_product}
use Rattle.fips_197.specs.Cipher.{substitute_bytes, multiply_columns, shift_rows, mix_columns}
use Rattle.fips_197.specs.InverseCipher.{inverse_substitute_bytes, inverse_mix_columns}
use Rattle.fips_197.specs.SBox.{s_box, inverse_s_box}
use Rattle.fips_197.proofs.SBoxLaws.{s_box-lt, inverse_s_box-lt}
use Rattle.fips_197.proofs.Blocks.{by_bytes, IsBlock-state}
use Rattle.fips_197.proofs.Steps.{mix_columns-xor, inverse_mix_columns-xor}
use Rattle.aes_planes.specs.Planes.{with_constant}
use Rattle.aes_slices.proofs.MadeBlocks.{IsBlock-map}

pub IsBlock-with_constant : (s : List ℕ) → IsBlock s → IsBlock (with_constant s)
unfolding with_constant
IsBlock-with_constant s block = IsBlock-map (λ b. bit_xor b 0x63) s (λ b lt. xor_lt 8 b 0x63 lt (omega arith)) block

pub IsBlock-substituted : (s : List ℕ) → IsBlock s → IsBlock (substitute_bytes s)
unfolding substitute_bytes
IsBlock-substituted s block = IsBlock-map s_box s s_box-lt block

pub IsBlock-substituted_back : (s : List ℕ) → IsBlock s → IsBlock (inverse_substitute_bytes s)
unfolding inverse_substitute_bytes
IsBlock-substituted_back s block = IsBlock-map inverse_s_box s inverse_s_box-lt block

-- ---- sums

pub constant_right : (s t : List ℕ) → xor_bytes s (with_constant t) ≡ with_constant (xor_bytes s t)
unfolding xor_bytes with_constant
constant_right [] t = refl
constant_right (x ∷ s) [] = refl
constant_right (x ∷ s) (y ∷ t) = λ i. sym (xor_assoc x y 0x63) i ∷ constant_right s t i

twice_gone : (x y : ℕ) → bit_xor (bit_xor x 0x63) (bit_xor y 0x63) ≡ bit_xor x y
twice_gone x y =
    xor_assoc x 0x63 (bit_xor y 0x63)
    ∙ ap (bit_xor x) (xor_comm 0x63 (bit_xor y 0x63) ∙ xor_assoc y 0x63 0x63 ∙ ap (bit_xor y) (xor_self 0x63) ∙ xor_zero_r y)

pub constants_gone : (s t : List ℕ) → xor_bytes (with_constant s) (with_constant t) ≡ xor_bytes s t
unfolding xor_bytes with_constant
constants_gone [] t = refl
constants_gone (x ∷ s) [] = refl
constants_gone (x ∷ s) (y ∷ t) = λ i. twice_gone x y i ∷ constants_gone s t i

-- ---- rows and columns

pub constant-shift_rows : (s : List ℕ) → IsBlock s → shift_rows (with_constant s) ≡ with_constant (shift_rows s)
unfolding with_constant shift_rows state byte_at
constant-shift_rows s block =
    subst (λ l. shift_rows (with_constant l) ≡ with_constant (shift_rows l)) (sym (by_bytes s block.size)) refl

-- a block of it alone
abbrev constants : List ℕ
constants = with_constant (0 ∷ 0 ∷ 0 ∷ 0 ∷ 0 ∷ 0 ∷ 0 ∷ 0 ∷ 0 ∷ 0 ∷ 0 ∷ 0 ∷ 0 ∷ 0 ∷ 0 ∷ 0 ∷ [])

IsBlock-constants : IsBlock constants
unfolding state
IsBlock-constants = IsBlock-with_constant _ (IsBlock-state (λ r c. 0) (λ r c. omega arith))

by_constants : (s : List ℕ) → IsBlock s → xor_bytes s constants ≡ with_constant s
unfolding xor_bytes with_constant
by_constants s block = subst (λ l. xor_bytes l constants ≡ with_constant l) (sym (by_bytes s block.size)) refl

mixed-constants : mix_columns constants ≡ constants
unfolding with_constant mix_columns multiply_columns columns column word_product coefficient byte_at bit terms_product remainder product
mixed-constants = refl

mixed_back-constants : inverse_mix_columns constants ≡ constants
unfolding with_constant inverse_mix_columns multiply_columns columns column word_product coefficient byte_at bit terms_product
    remainder product
mixed_back-constants = refl

pub constant-mix_columns : (s : List ℕ) → IsBlock s → IsBlock (mix_columns s)
    → mix_columns (with_constant s) ≡ with_constant (mix_columns s)
constant-mix_columns s block made =
    ap mix_columns (sym (by_constants s block)) ∙ mix_columns-xor s constants block IsBlock-constants
    ∙ ap (xor_bytes (mix_columns s)) mixed-constants ∙ by_constants (mix_columns s) made

pub constant-inverse_mix_columns : (s : List ℕ) → IsBlock s → IsBlock (inverse_mix_columns s)
    → inverse_mix_columns (with_constant s) ≡ with_constant (inverse_mix_columns s)
constant-inverse_mix_columns s block made =
    ap inverse_mix_columns (sym (by_constants s block)) ∙ inverse_mix_columns-xor s constants block IsBlock-constants
    ∙ ap (xor_bytes (inverse_mix_columns s)) mixed_back-constants ∙ by_constants (inverse_mix_columns s) made
