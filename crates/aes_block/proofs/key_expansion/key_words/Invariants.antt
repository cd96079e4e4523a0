use Rattle.std.proofs.Common.{◌≡◌, ◌*◌, length, take}
use Rattle.aes_block.specs.Words.{words_bytes}
use Rattle.aes_block.specs.declared.key_expansion.TheConstants.{SCHEDULE_WORDS}
use Rattle.aes_block.proofs.key_expansion.key_words.Given as goal

-- the words so far are the key's
abbrev pub invariant-load : goal.invariant-load
invariant-load l = record {
  size : length l.words ≡ SCHEDULE_WORDS;
  so_far : words_bytes (take l.i l.words) ≡ take (4 * l.i) l.key;
}
