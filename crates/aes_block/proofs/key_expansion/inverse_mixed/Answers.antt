use Rattle.std.proofs.Common.{◌≡◌, ◌≢◌, ◌<◌, ◌≤◌, length, get_or, set, arith, ◌∙◌, ap, below_more}
use Rattle.std.proofs.lemmas.List.{get_or-set_same, get_or-set_other, length-set}
use Rattle.fips_197.specs.WordPolynomial.{word_product}
use Rattle.fips_197.specs.InverseCipher.{inverse_mix_polynomial}
use Rattle.aes_block.specs.Words.{word_bytes}
use Rattle.aes_block.proofs.WordsInRow.{inverse_mixed-round_key}
use Rattle.aes_block.proofs.key_expansion.inverse_mixed.Goals as goal

pub words-preserved : goal.words-preserved
words-preserved c =
    let within : c.words.i < length c.words.inverse = omega (arith, c.words.invariant.size) in
    let next = set c.words.inverse c.words.i c.inverse_mixed_word.result in
    record {
      size = length-set c.words.inverse c.words.i c.inverse_mixed_word.result ∙ c.words.invariant.size;
      so_far = below_more (λ k. 4 ≤ k → word_bytes (get_or next k 0)
          ≡ word_product inverse_mix_polynomial (word_bytes (get_or c.args.schedule.now k 0))) _
          (λ k lt low. let ne : k ≢ c.words.i = omega arith in
          ap word_bytes (get_or-set_other c.words.inverse c.words.i k c.inverse_mixed_word.result 0 ne)
          ∙ c.words.invariant.so_far k lt low)
          (λ low. ap word_bytes (get_or-set_same c.words.inverse c.words.i c.inverse_mixed_word.result 0 within)
          ∙ c.inverse_mixed_word.ensures);
    }

pub returns : goal.returns
returns c = λ r low high.
    inverse_mixed-round_key c.args.schedule.now c.words.inverse r (omega arith) (omega (arith, c.words.invariant.size))
    (λ k from to. c.words.invariant.so_far k (omega arith) (omega arith))
