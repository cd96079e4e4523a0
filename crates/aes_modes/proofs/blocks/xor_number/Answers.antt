use Rattle.std.proofs.Common.{◌∙◌, ap, arith, bit_xor}
use Rattle.std.specs.Int.{w128, to_be_bytes}
use Rattle.fips_197.specs.Bytes.{xor_bytes}
use Rattle.fips_197.proofs.Numbers.{to_be_bytes-xor, to_be_bytes-block}
use Rattle.aes_modes.proofs.blocks.xor_number.Goals as goal

pub returns : goal.returns
returns c =
    let block = c.args.block in
    ap (λ n. to_be_bytes w128 (bit_xor n c.args.number)) c.from_be_bytes.ensures
    ∙ to_be_bytes-xor _ c.args.number
    ∙ ap (λ b. xor_bytes b (to_be_bytes w128 c.args.number))
    (to_be_bytes-block block (record { size = omega arith; bytes = c.are_bytes.ensures }))
