use Rattle.std.proofs.Common.{◌∙◌, ap}
use Rattle.aes_cmac.specs.Cmac.{doubled, second_subkey}
use Rattle.aes_cmac.proofs.subkeys.second_subkey.Goals as goal

pub returns : goal.returns
unfolding second_subkey
returns c = c.doubled.ensures ∙ ap doubled c.first_subkey.ensures
