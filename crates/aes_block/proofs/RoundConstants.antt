-- The words of the table of round constants.
use Rattle.std.proofs.Common.{◌≡◌, ℕ, ◌+◌, ◌-◌, ◌≤◌, ◌∙◌, true, get_or, ap, refl, arith}
use Rattle.std.proofs.lemmas.Bool.{agree_below, agree_below_at}
use Rattle.fips_197.specs.Field.{bit, terms_product, remainder, product}
use Rattle.fips_197.specs.KeyExpansion.{power_of_x, round_constant}
use Rattle.aes_block.specs.Words.{word_bytes}
use Rattle.aes_block.specs.declared.key_expansion.TheConstants.{ROUND_CONSTANTS}
use Rattle.fips_197.proofs.WordTests.{same_word, same_word-tells}

ROUND_CONSTANTS-checked : agree_below
    (λ k. same_word (word_bytes (get_or ROUND_CONSTANTS k 0)) (round_constant (k + 1))) (λ _. true) 10 ≡ true
unfolding same_word word_bytes bit terms_product remainder product power_of_x round_constant
ROUND_CONSTANTS-checked = refl

pub ROUND_CONSTANTS-at : (i : ℕ) → 1 ≤ i → i ≤ 10 → word_bytes (get_or ROUND_CONSTANTS (i - 1) 0) ≡ round_constant i
unfolding round_constant word_bytes
ROUND_CONSTANTS-at i low high =
    let back : i - 1 + 1 ≡ i = omega arith in
    same_word-tells _ _ _ _ _ _ _ _
    (agree_below_at (λ k. same_word (word_bytes (get_or ROUND_CONSTANTS k 0)) (round_constant (k + 1))) (λ _. true) 10
    (i - 1) ROUND_CONSTANTS-checked (omega arith))
    ∙ ap round_constant back
