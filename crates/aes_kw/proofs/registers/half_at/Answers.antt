use Rattle.std.proofs.Common.{◌∙◌}
use Rattle.aes_kw.proofs.Rows.{half-slice}
use Rattle.aes_kw.proofs.registers.half_at.Goals as goal

pub returns : goal.returns
returns c = c.copy_from_slice.ensures.after ∙ half-slice c.args.row.now c.args.i
