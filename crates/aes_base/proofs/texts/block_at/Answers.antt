use Rattle.std.proofs.Common.{◌∙◌}
use Rattle.fips_197.proofs.TextBlocks.{block_of-slice}
use Rattle.aes_base.proofs.texts.block_at.Goals as goal

pub returns : goal.returns
returns c = c.copy_from_slice.ensures.after ∙ block_of-slice c.args.text.now c.args.i
