use Rattle.std.proofs.Common.{◌++◌, ◌∙◌, sym, arith}
use Rattle.aes_block.specs.Words.{state_bytes}
use Rattle.fips_197.proofs.Blocks.{by_bytes}
use Rattle.aes_block.proofs.state.State.from_block.Goals as goal

pub returns : goal.returns
unfolding state_bytes
returns c =
    (λ i. c.word_of.ensures i ++ (c.word_of-2.ensures i ++ (c.word_of-3.ensures i ++ c.word_of-4.ensures i)))
    ∙ sym (by_bytes c.args.block (omega arith))
