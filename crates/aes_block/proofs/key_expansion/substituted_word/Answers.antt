use Rattle.aes_block.specs.Words.{word_bytes, diagonal}
use Rattle.aes_block.proofs.key_expansion.substituted_word.Goals as goal

pub returns : goal.returns
unfolding diagonal word_bytes
returns c = c.substituted_column.ensures
