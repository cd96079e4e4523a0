use Rattle.std.proofs.Common.{◌≡◌, ℕ, ◌<◌, ◌≤◌, length, get_or}
use Rattle.fips_197.specs.WordPolynomial.{word_product}
use Rattle.fips_197.specs.InverseCipher.{inverse_mix_polynomial}
use Rattle.aes_block.specs.Words.{word_bytes}
use Rattle.aes_block.specs.declared.key_expansion.TheConstants.{SCHEDULE_WORDS}
use Rattle.aes_block.proofs.key_expansion.inverse_mixed.Given as goal

-- each word so far is mixed inversely
abbrev pub invariant-words : goal.invariant-words
invariant-words l = record {
  size : length l.inverse ≡ SCHEDULE_WORDS;
  so_far : (k : ℕ) → k < l.i → 4 ≤ k → word_bytes (get_or l.inverse k 0)
      ≡ word_product inverse_mix_polynomial (word_bytes (get_or l.schedule k 0));
}
