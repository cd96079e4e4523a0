use Rattle.aes_block.proofs.RoundConstants.{ROUND_CONSTANTS-at}
use Rattle.aes_block.proofs.key_expansion.round_constant.Goals as goal

pub returns : goal.returns
returns c = ROUND_CONSTANTS-at c.args.i c.requires.low c.requires.high
