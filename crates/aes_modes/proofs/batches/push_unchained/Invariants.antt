use Rattle.std.proofs.Common.{◌≡◌, ◌*◌, ◌++◌, min}
use Rattle.fips_197.specs.Bytes.{xor_bytes}
use Rattle.fips_197.specs.Texts.{block_of}
use Rattle.aes_slices.specs.Decrypt.{decrypted_block}
use Rattle.aes_modes.specs.Blocks.{first_blocks}
use Rattle.aes_modes.proofs.batches.push_unchained.Given as goal

abbrev pub invariant-turns : goal.invariant-turns
invariant-turns l =
    l.out.items ≡ l.initial.out.items
    ++ first_blocks (λ i. xor_bytes (decrypted_block l.key (block_of (l.front ++ l.piece) i))
    (block_of (l.fn.iv ++ (l.front ++ l.piece)) i)) (min (8 * l.n) l.fn.blocks)
