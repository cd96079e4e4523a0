use Rattle.std.proofs.Common.{◌∙◌, ap}
use Rattle.aes_cmac.specs.Cmac.{doubled, first_subkey}
use Rattle.aes_cmac.proofs.subkeys.first_subkey.Goals as goal

pub returns : goal.returns
unfolding first_subkey
returns c = c.doubled.ensures ∙ ap doubled c.encipher.ensures.value
