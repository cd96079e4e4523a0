use Rattle.std.proofs.Common.{◌∙◌, ap}
use Rattle.fips_197.specs.Cipher.{add_round_key}
use Rattle.fips_197.specs.Cipher.{round}
use Rattle.aes_block.specs.Words.{state_bytes}
use Rattle.aes_block.proofs.RoundWords.{mixed_state}
use Rattle.aes_block.proofs.round.round.Goals as goal

pub returns : goal.returns
unfolding round
returns c =
    c.add_round_key.ensures
    ∙ ap (λ s. add_round_key s (state_bytes c.args.key))
    (mixed_state c.args.s _ c.mixed_column.ensures c.mixed_column-2.ensures c.mixed_column-3.ensures c.mixed_column-4.ensures)
