-- Examples of the standard, computed from the definitions, so that a wrong constant or step in them does not check.
use Rattle.std.proofs.Common.{◌≡◌, [], ◌∷◌, refl}
use Rattle.fips_197.specs.Bytes.{xor_bytes}
use Rattle.fips_197.specs.Field.{bit, terms_product, remainder, product, inverse_below, inverse}
use Rattle.fips_197.specs.SBox.{from_bits, affine, s_box}
use Rattle.fips_197.specs.State.{byte_at, state, column, columns}
use Rattle.fips_197.specs.WordPolynomial.{coefficient, word_product}
use Rattle.fips_197.specs.Cipher.{substitute_bytes, shift_rows, multiply_columns, mix_columns, round_key, add_round_key, round, last_round, state_after, cipher}
use Rattle.fips_197.specs.KeyExpansion.{word_count, round_count, word, rotate_word, power_of_x, round_constant, expansion_term, expanded_words, key_expansion}
use Rattle.fips_197.specs.Encrypt.{encrypted_block}

-- {57} times {83} (4.2)
pub product_of_57_and_83 : product 0x57 0x83 ≡ 0xC1
unfolding bit terms_product remainder product
product_of_57_and_83 = refl

-- {57} times {13} (4.2.1)
pub product_of_57_and_13 : product 0x57 0x13 ≡ 0xFE
unfolding bit terms_product remainder product
product_of_57_and_13 = refl

-- the S-box at {53} (5.1.1)
pub s_box_of_53 : s_box 0x53 ≡ 0xED
unfolding bit terms_product remainder product inverse_below inverse from_bits affine s_box
s_box_of_53 = refl

-- the example with a key of 128 bits (C.1)
pub example_of_128_bits : encrypted_block
    (0x00 ∷ 0x01 ∷ 0x02 ∷ 0x03 ∷ 0x04 ∷ 0x05 ∷ 0x06 ∷ 0x07 ∷ 0x08 ∷ 0x09 ∷ 0x0A ∷ 0x0B ∷ 0x0C ∷ 0x0D ∷ 0x0E ∷ 0x0F ∷ [])
    (0x00 ∷ 0x11 ∷ 0x22 ∷ 0x33 ∷ 0x44 ∷ 0x55 ∷ 0x66 ∷ 0x77 ∷ 0x88 ∷ 0x99 ∷ 0xAA ∷ 0xBB ∷ 0xCC ∷ 0xDD ∷ 0xEE ∷ 0xFF ∷ [])
    ≡ 0x69 ∷ 0xC4 ∷ 0xE0 ∷ 0xD8 ∷ 0x6A ∷ 0x7B ∷ 0x04 ∷ 0x30 ∷ 0xD8 ∷ 0xCD ∷ 0xB7 ∷ 0x80 ∷ 0x70 ∷ 0xB4 ∷ 0xC5 ∷ 0x5A ∷ []
unfolding xor_bytes bit terms_product remainder product inverse_below inverse from_bits affine s_box
    byte_at state column columns coefficient word_product substitute_bytes shift_rows multiply_columns mix_columns
    round_key add_round_key round last_round state_after cipher word_count round_count word rotate_word power_of_x
    round_constant expansion_term expanded_words key_expansion encrypted_block
example_of_128_bits = refl

-- with a key of 192 bits (C.2)
pub example_of_192_bits : encrypted_block
    (0x00 ∷ 0x01 ∷ 0x02 ∷ 0x03 ∷ 0x04 ∷ 0x05 ∷ 0x06 ∷ 0x07 ∷ 0x08 ∷ 0x09 ∷ 0x0A ∷ 0x0B ∷ 0x0C ∷ 0x0D ∷ 0x0E ∷ 0x0F ∷
    0x10 ∷ 0x11 ∷ 0x12 ∷ 0x13 ∷ 0x14 ∷ 0x15 ∷ 0x16 ∷ 0x17 ∷ [])
    (0x00 ∷ 0x11 ∷ 0x22 ∷ 0x33 ∷ 0x44 ∷ 0x55 ∷ 0x66 ∷ 0x77 ∷ 0x88 ∷ 0x99 ∷ 0xAA ∷ 0xBB ∷ 0xCC ∷ 0xDD ∷ 0xEE ∷ 0xFF ∷ [])
    ≡ 0xDD ∷ 0xA9 ∷ 0x7C ∷ 0xA4 ∷ 0x86 ∷ 0x4C ∷ 0xDF ∷ 0xE0 ∷ 0x6E ∷ 0xAF ∷ 0x70 ∷ 0xA0 ∷ 0xEC ∷ 0x0D ∷ 0x71 ∷ 0x91 ∷ []
unfolding xor_bytes bit terms_product remainder product inverse_below inverse from_bits affine s_box
    byte_at state column columns coefficient word_product substitute_bytes shift_rows multiply_columns mix_columns
    round_key add_round_key round last_round state_after cipher word_count round_count word rotate_word power_of_x
    round_constant expansion_term expanded_words key_expansion encrypted_block
example_of_192_bits = refl

-- with a key of 256 bits (C.3)
pub example_of_256_bits : encrypted_block
    (0x00 ∷ 0x01 ∷ 0x02 ∷ 0x03 ∷ 0x04 ∷ 0x05 ∷ 0x06 ∷ 0x07 ∷ 0x08 ∷ 0x09 ∷ 0x0A ∷ 0x0B ∷ 0x0C ∷ 0x0D ∷ 0x0E ∷ 0x0F ∷
    0x10 ∷ 0x11 ∷ 0x12 ∷ 0x13 ∷ 0x14 ∷ 0x15 ∷ 0x16 ∷ 0x17 ∷ 0x18 ∷ 0x19 ∷ 0x1A ∷ 0x1B ∷ 0x1C ∷ 0x1D ∷ 0x1E ∷ 0x1F ∷ [])
    (0x00 ∷ 0x11 ∷ 0x22 ∷ 0x33 ∷ 0x44 ∷ 0x55 ∷ 0x66 ∷ 0x77 ∷ 0x88 ∷ 0x99 ∷ 0xAA ∷ 0xBB ∷ 0xCC ∷ 0xDD ∷ 0xEE ∷ 0xFF ∷ [])
    ≡ 0x8E ∷ 0xA2 ∷ 0xB7 ∷ 0xCA ∷ 0x51 ∷ 0x67 ∷ 0x45 ∷ 0xBF ∷ 0xEA ∷ 0xFC ∷ 0x49 ∷ 0x90 ∷ 0x4B ∷ 0x49 ∷ 0x60 ∷ 0x89 ∷ []
unfolding xor_bytes bit terms_product remainder product inverse_below inverse from_bits affine s_box
    byte_at state column columns coefficient word_product substitute_bytes shift_rows multiply_columns mix_columns
    round_key add_round_key round last_round state_after cipher word_count round_count word rotate_word power_of_x
    round_constant expansion_term expanded_words key_expansion encrypted_block
example_of_256_bits = refl
