use Rattle.std.proofs.Common.{◌≡◌, ◌+◌, ◌*◌, ◌++◌, min}
use Rattle.std.specs.Int.{w128, to_be_bytes}
use Rattle.fips_197.specs.Bytes.{xor_bytes}
use Rattle.fips_197.specs.Texts.{block_of}
use Rattle.fips_197.specs.Encrypt.{encrypted_block}
use Rattle.aes_modes.specs.Blocks.{first_blocks}
use Rattle.aes_modes.proofs.batches.push_counted.Given as goal

abbrev pub invariant-turns : goal.invariant-turns
invariant-turns l =
    l.out.items ≡ l.initial.out.items
    ++ first_blocks (λ i. xor_bytes (block_of (l.front ++ l.piece) i)
    (encrypted_block l.key (to_be_bytes w128 (l.fn.first + i)))) (min (8 * l.n) l.fn.blocks)
