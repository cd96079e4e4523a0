use Rattle.std.proofs.Common.{◌∙◌, ◌-◌, ◌/◌, ◌++◌, length, replicate, ap}
use Rattle.fips_197.specs.Bytes.{xor_bytes}
use Rattle.fips_197.specs.Encrypt.{encrypted_block}
use Rattle.aes_modes.specs.Modes.{cbc_blocks}
use Rattle.aes_modes.proofs.Paddings.{cbc_pad-blocks, padded-last}
use Rattle.aes_modes.proofs.padded_chaining.encrypted.Goals as goal

pub returns : goal.returns
returns c =
    let key = c.args.key.now in
    let iv = c.args.iv in
    let text = c.args.text.now in
    let rest = c.rest_of-rest.ensures in
    let filled = c.filled_block-last.ensures
    ∙ (λ t. rest.value t ++ replicate (16 - rest.size t) (16 - rest.size t)) ∙ padded-last text in
    let last = c.encipher.ensures.value
    ∙ ap (encrypted_block key) (c.xor_blocks.ensures.value ∙ (λ t. xor_bytes (filled t) (c.in_ok-before.ensures.chained t))) in
    c.in_ok-extend_from_slice.ensures.items
    ∙ (λ t. (c.in_ok-before.ensures.blocks ∙ ap (λ o. o ++ cbc_blocks key iv text (length text / 16)) c.in_ok-out.ensures.items) t
    ++ last t)
    ∙ cbc_pad-blocks key iv text
