use Rattle.std.proofs.Common.{◌∷◌, [], ◌∙◌}
use Rattle.aes_block.proofs.RoundWords.{inverse_substituted_diagonal}
use Rattle.aes_block.proofs.inverse_round.inverse_substituted_column.Goals as goal

pub returns : goal.returns
returns c =
    c.word_of.ensures
    ∙ (λ i. c.inverse_s_box.ensures i ∷ c.inverse_s_box-2.ensures i ∷ c.inverse_s_box-3.ensures i ∷
    c.inverse_s_box-4.ensures i ∷ [])
    ∙ inverse_substituted_diagonal c.args.a c.args.b c.args.c c.args.d _ _ _ _ c.byte_0.ensures c.byte_1.ensures
    c.byte_2.ensures c.byte_3.ensures
