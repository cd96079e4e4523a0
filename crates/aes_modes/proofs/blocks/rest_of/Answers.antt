use Rattle.std.proofs.Common.{◌∙◌, ◌*◌, ◌/◌, length}
use Rattle.std.proofs.lemmas.List.{take_rest}
use Rattle.aes_modes.proofs.Texts.{block_of-rest}
use Rattle.aes_modes.proofs.blocks.rest_of.Goals as goal

pub returns-clause-value : goal.returns-clause-value
returns-clause-value c =
    take_rest c.args.text.now (16 * (length c.args.text.now / 16)) ∙ block_of-rest c.args.text.now
