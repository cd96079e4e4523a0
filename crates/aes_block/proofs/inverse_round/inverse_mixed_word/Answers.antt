use Rattle.std.proofs.Common.{◌∙◌, arith, ◌∷◌, []}
use Rattle.fips_197.specs.WordPolynomial.{word_product}
use Rattle.fips_197.specs.InverseCipher.{inverse_mix_polynomial}
use Rattle.aes_block.specs.Words.{word_bytes}
use Rattle.aes_block.proofs.RoundWords.{mixed_column-of, through_s_box}
use Rattle.aes_block.proofs.inverse_round.inverse_mixed_word.Goals as goal

pub returns : goal.returns
unfolding word_bytes
returns c =
    mixed_column-of inverse_mix_polynomial _ _ _ _ _ _ _ _
    c.inverse_mixed_row.ensures c.inverse_mixed_row-2.ensures c.inverse_mixed_row-3.ensures c.inverse_mixed_row-4.ensures
    ∙ (λ i. word_product inverse_mix_polynomial
    (through_s_box _ _ _ c.byte_0.ensures c.s_box.ensures (omega arith) i
    ∷ through_s_box _ _ _ c.byte_1.ensures c.s_box-2.ensures (omega arith) i
    ∷ through_s_box _ _ _ c.byte_2.ensures c.s_box-3.ensures (omega arith) i
    ∷ through_s_box _ _ _ c.byte_3.ensures c.s_box-4.ensures (omega arith) i ∷ []))
