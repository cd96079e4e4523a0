use Rattle.std.proofs.Common.{◌∙◌, ap}
use Rattle.fips_197.specs.Bytes.{xor_bytes}
use Rattle.fips_197.specs.Encrypt.{encrypted_block}
use Rattle.aes_cmac.specs.Cmac.{last_block, cmac}
use Rattle.aes_cmac.proofs.tag_of_end.Goals as goal

pub returns : goal.returns
unfolding cmac
returns c = λ message chain rest.
    let key = c.args.key.now in
    let last = c.last_block.ensures ∙ ap (last_block key) rest in
    c.encipher.ensures.value
    ∙ ap (encrypted_block key) (c.xor_blocks.ensures.value ∙ (λ t. xor_bytes (chain t) (last t)))
