use Rattle.std.proofs.Common.{refl, arith}
use Rattle.aes_block.proofs.WordsInRow.{round_key-words_bytes}
use Rattle.aes_block.proofs.cipher.round_key.Goals as goal

pub returns : goal.returns
returns c = round_key-words_bytes c.args.schedule.now c.args.r _ (omega arith) refl refl refl refl
