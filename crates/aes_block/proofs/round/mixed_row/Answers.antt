use Rattle.std.proofs.Common.{arith}
use Rattle.aes_block.proofs.MixEntries.{MIXED_ROWS-at}
use Rattle.aes_block.proofs.round.mixed_row.Goals as goal

pub returns : goal.returns
returns g c = MIXED_ROWS-at g.row.R c.args.x c.requires (omega arith)
