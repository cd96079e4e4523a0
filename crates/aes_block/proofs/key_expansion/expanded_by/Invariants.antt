use Rattle.std.proofs.Common.{◌≡◌, ◌-◌, length, take}
use Rattle.fips_197.specs.KeyExpansion.{expanded_words}
use Rattle.aes_block.specs.Words.{words_bytes}
use Rattle.aes_block.specs.declared.key_expansion.TheConstants.{SCHEDULE_WORDS}
use Rattle.aes_block.proofs.key_expansion.expanded_by.Given as goal

-- the words so far are those that the key is expanded to
abbrev pub invariant-schedule : goal.invariant-schedule
invariant-schedule g l = record {
  size : length l.words ≡ SCHEDULE_WORDS;
  so_far : words_bytes (take l.i l.words) ≡ expanded_words l.key g.row.NK (l.i - g.row.NK);
}
