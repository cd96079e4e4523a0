use Rattle.std.proofs.Common.{◌∷◌, []}
use Rattle.aes_block.specs.Words.{word_bytes, state_bytes}
use Rattle.aes_block.proofs.state.State.to_block.Goals as goal

pub returns : goal.returns
unfolding state_bytes word_bytes
returns c = λ i.
    c.byte_0.ensures i ∷ c.byte_1.ensures i ∷ c.byte_2.ensures i ∷ c.byte_3.ensures i
    ∷ c.byte_0-2.ensures i ∷ c.byte_1-2.ensures i ∷ c.byte_2-2.ensures i ∷ c.byte_3-2.ensures i
    ∷ c.byte_0-3.ensures i ∷ c.byte_1-3.ensures i ∷ c.byte_2-3.ensures i ∷ c.byte_3-3.ensures i
    ∷ c.byte_0-4.ensures i ∷ c.byte_1-4.ensures i ∷ c.byte_2-4.ensures i ∷ c.byte_3-4.ensures i ∷ []
