use Rattle.std.proofs.Common.{arith, ◌/◌, ◌-◌, ◌≡◌, length, ◌∙◌, ap, take}
use Rattle.std.proofs.lemmas.List.{length-set}
use Rattle.fips_197.specs.KeyExpansion.{expanded_words}
use Rattle.aes_block.specs.Words.{words_bytes}
use Rattle.aes_block.proofs.ScheduleWords.{expanded_word-step, key_expansion-end}
use Rattle.aes_block.proofs.key_expansion.expanded_by.Goals as goal

pub schedule-init : goal.schedule-init
unfolding expanded_words
schedule-init g c =
    let words : g.row.NK ≡ length c.args.key.now / 4 = omega (arith, c.requires.size) in
    let none : 0 ≡ g.row.NK - g.row.NK = omega arith in
    record {
      size = omega arith;
      so_far = ap (λ n. words_bytes (take n c.key_words-words.result)) words ∙ c.key_words-words.ensures
          ∙ ap (expanded_words c.args.key.now g.row.NK) none;
    }

pub schedule-preserved : goal.schedule-preserved
schedule-preserved g c = record {
  size = length-set c.schedule.words c.schedule.i c.xor_words.result ∙ c.schedule.invariant.size;
  so_far = expanded_word-step c.args.key.now c.schedule.words g.row.NK c.schedule.i c.xor_words.result c.expansion_term.result
      (omega (arith, c.requires)) (omega arith)
      (omega (arith, c.requires)) c.schedule.invariant.so_far c.xor_words.ensures c.expansion_term.ensures;
}

pub returns : goal.returns
returns g c =
    let words : g.row.NK ≡ length c.args.key.now / 4 = omega (arith, c.requires.size) in
    key_expansion-end c.args.key.now c.schedule.words g.row.NK c.schedule.i words
    (omega (arith, c.requires)) c.schedule.invariant.so_far
