use Rattle.aes_block.specs.Words.{word_bytes, state_bytes}
use Rattle.fips_197.proofs.Numbers.{to_be_bytes-words}
use Rattle.aes_block.proofs.state.State.from_number.Goals as goal

pub returns : goal.returns
unfolding word_bytes state_bytes
returns c = to_be_bytes-words c.args.number _ _ _ _ c.low_word.ensures c.low_word-2.ensures c.low_word-3.ensures c.low_word-4.ensures
