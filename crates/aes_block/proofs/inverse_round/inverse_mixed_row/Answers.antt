use Rattle.std.proofs.Common.{arith}
use Rattle.aes_block.proofs.MixEntries.{INVERSE_MIXED_ROWS-at}
use Rattle.aes_block.proofs.inverse_round.inverse_mixed_row.Goals as goal

pub returns : goal.returns
returns g c = INVERSE_MIXED_ROWS-at g.row.R c.args.x c.requires (omega arith)
