use Rattle.std.proofs.Common.{arith}
use Rattle.aes_block.proofs.SBoxEntries.{INVERSE_S_BOX-at}
use Rattle.aes_block.proofs.inverse_round.inverse_s_box.Goals as goal

pub returns : goal.returns
returns c = INVERSE_S_BOX-at c.args.x (omega arith)
