use Rattle.std.proofs.Common.{◌∙◌, ap}
use Rattle.fips_197.specs.WordPolynomial.{word_product}
use Rattle.fips_197.specs.Cipher.{mix_polynomial}
use Rattle.aes_block.proofs.RoundWords.{mixed_column-of, substituted_diagonal}
use Rattle.aes_block.proofs.round.mixed_column.Goals as goal

pub returns : goal.returns
returns c =
    mixed_column-of mix_polynomial _ _ _ _ _ _ _ _ c.mixed_row.ensures c.mixed_row-2.ensures c.mixed_row-3.ensures
    c.mixed_row-4.ensures
    ∙ ap (word_product mix_polynomial)
    (substituted_diagonal c.args.a c.args.b c.args.c c.args.d _ _ _ _ c.byte_0.ensures c.byte_1.ensures c.byte_2.ensures
    c.byte_3.ensures)
