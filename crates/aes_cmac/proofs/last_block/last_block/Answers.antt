use Rattle.std.proofs.Common.{◌∙◌}
use Rattle.fips_197.specs.Bytes.{xor_bytes}
use Rattle.aes_cmac.proofs.Messages.{block_of-whole, last_block-whole, last_block-padded}
use Rattle.aes_cmac.proofs.last_block.last_block.Goals as goal

pub returns-then-rest-eq-BLOCK_SIZE : goal.returns-then-rest-eq-BLOCK_SIZE
returns-then-rest-eq-BLOCK_SIZE c =
    let rest = c.args.rest.now in
    let whole = c.if-rest-eq-BLOCK_SIZE.true in
    c.xor_blocks.ensures.value
    ∙ (λ t. xor_bytes (c.first_subkey.ensures t) ((c.block_at.ensures ∙ block_of-whole rest whole) t))
    ∙ last_block-whole c.args.key.now rest whole

pub returns : goal.returns
returns c =
    c.xor_blocks-2.ensures.value
    ∙ (λ t. xor_bytes (c.second_subkey.ensures t) (c.bit_padded.ensures t))
    ∙ last_block-padded c.args.key.now c.args.rest.now c.if-rest-eq-BLOCK_SIZE.false
