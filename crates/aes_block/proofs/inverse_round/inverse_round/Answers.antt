use Rattle.std.proofs.Common.{◌∙◌, ap}
use Rattle.fips_197.specs.Cipher.{add_round_key}
use Rattle.fips_197.specs.InverseCipher.{inverse_round}
use Rattle.aes_block.specs.Words.{state_bytes}
use Rattle.aes_block.proofs.RoundWords.{inverse_mixed_state}
use Rattle.aes_block.proofs.inverse_round.inverse_round.Goals as goal

pub returns : goal.returns
unfolding inverse_round
returns c =
    c.add_round_key.ensures
    ∙ ap (λ s. add_round_key s (state_bytes c.args.key))
    (inverse_mixed_state c.args.s _ c.inverse_mixed_column.ensures c.inverse_mixed_column-2.ensures
    c.inverse_mixed_column-3.ensures c.inverse_mixed_column-4.ensures)
