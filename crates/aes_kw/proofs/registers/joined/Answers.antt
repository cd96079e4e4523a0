use Rattle.std.proofs.Common.{◌∙◌, length, ap, arith}
use Rattle.aes_kw.proofs.Rows.{halves-written}
use Rattle.aes_kw.proofs.registers.joined.Goals as goal

pub returns : goal.returns
returns c =
    halves-written c.copy_from_slice.new.self c.copy_from_slice-2.new.self c.args.first c.args.second
    (ap length c.copy_from_slice.ensures.after ∙ omega arith) c.copy_from_slice.ensures.after c.copy_from_slice-2.ensures.after
