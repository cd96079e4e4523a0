use Rattle.std.proofs.Common.{◌∷◌, [], ◌∙◌}
use Rattle.fips_197.specs.SBox.{s_box}
use Rattle.fips_197.specs.Cipher.{substitute_bytes}
use Rattle.fips_197.specs.KeyExpansion.{rotate_word}
use Rattle.aes_block.specs.Words.{word_bytes}
use Rattle.aes_block.proofs.key_expansion.substituted_rotated_word.Goals as goal

pub returns : goal.returns
unfolding substitute_bytes rotate_word word_bytes
returns c =
    c.word_of.ensures
    ∙ (λ i. c.s_box.ensures i ∷ c.s_box-2.ensures i ∷ c.s_box-3.ensures i ∷ c.s_box-4.ensures i ∷ [])
    ∙ (λ i. s_box (c.byte_1.ensures i) ∷ s_box (c.byte_2.ensures i) ∷ s_box (c.byte_3.ensures i) ∷ s_box (c.byte_0.ensures i) ∷ [])
