use Rattle.std.proofs.Common.{◌∙◌, ap}
use Rattle.std.specs.Int.{w64, to_le_bytes}
use Rattle.aes_slices.proofs.NumberBytes.{to_le_bytes-swapped}
use Rattle.aes_slices.proofs.batch.half_of.Goals as goal

pub returns : goal.returns
returns c = c.to_le_bytes.ensures ∙ ap (to_le_bytes w64) c.swap_bytes.ensures ∙ to_le_bytes-swapped c.args.number
