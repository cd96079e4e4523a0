use Rattle.aes_block.proofs.RoundWords.{word_bytes-xor}
use Rattle.aes_block.proofs.key_expansion.xor_words.Goals as goal

pub returns : goal.returns
returns c = word_bytes-xor c.args.x c.args.y
