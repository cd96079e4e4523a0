use Rattle.std.proofs.Common.{arith}
use Rattle.aes_block.proofs.SBoxEntries.{S_BOX-at}
use Rattle.aes_block.proofs.round.s_box.Goals as goal

pub returns : goal.returns
returns c = S_BOX-at c.args.x (omega arith)
