use Rattle.fips_197.specs.Bytes.{IsBlock}
use Rattle.aes_planes.specs.Planes.{vector_of}
use Rattle.aes_planes.proofs.Bits.{each_of_eight}
use Rattle.aes_slices.proofs.eight.are_blocks.Goals as goal

pub returns : goal.returns
unfolding vector_of
returns c = each_of_eight (λ j. IsBlock (vector_of c.args.s j)) c.is_block.ensures c.is_block-2.ensures c.is_block-3.ensures
    c.is_block-4.ensures c.is_block-5.ensures c.is_block-6.ensures c.is_block-7.ensures c.is_block-8.ensures
