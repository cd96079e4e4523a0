use Rattle.std.proofs.Common.{◌∙◌, ap}
use Rattle.fips_197.specs.Cipher.{add_round_key}
use Rattle.fips_197.specs.Cipher.{last_round}
use Rattle.aes_block.specs.Words.{state_bytes}
use Rattle.aes_block.proofs.RoundWords.{shifted_state}
use Rattle.aes_block.proofs.round.last_round.Goals as goal

pub returns : goal.returns
unfolding last_round
returns c =
    c.add_round_key.ensures
    ∙ ap (λ s. add_round_key s (state_bytes c.args.key))
    (shifted_state c.args.s _ c.substituted_column.ensures c.substituted_column-2.ensures c.substituted_column-3.ensures
    c.substituted_column-4.ensures)
