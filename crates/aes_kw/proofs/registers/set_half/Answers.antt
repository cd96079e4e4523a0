use Rattle.aes_kw.proofs.Rows.{with_half-written}
use Rattle.aes_kw.proofs.registers.set_half.Goals as goal

pub returns : goal.returns
returns c = with_half-written c.args.row.now c.args.i c.copy_from_slice.new.self c.args.half c.copy_from_slice.ensures.after
