use Rattle.std.proofs.Common.{refl, arith, ◌*◌, ◌/◌, ◌≡◌, length, ◌∙◌, ap, sym, take}
use Rattle.std.proofs.lemmas.List.{length-set, take_all}
use Rattle.aes_block.specs.Words.{words_bytes}
use Rattle.aes_block.proofs.ScheduleWords.{key_word-step}
use Rattle.aes_block.proofs.key_expansion.key_words.Goals as goal

pub load-init : goal.load-init
unfolding words_bytes
load-init c = record { size = refl; so_far = refl }

pub load-preserved : goal.load-preserved
load-preserved c = record {
  size = length-set c.load.words c.load.i c.word_of.result ∙ c.load.invariant.size;
  so_far = key_word-step c.args.key.now c.load.words c.load.i c.word_of.result (omega arith)
      (omega (arith, c.requires)) c.load.invariant.so_far c.word_of.ensures;
}

pub returns : goal.returns
returns c =
    let n : c.load.i ≡ length c.args.key.now / 4 = omega arith in
    let all : 4 * (length c.args.key.now / 4) ≡ length c.args.key.now = omega (arith, c.requires) in
    ap (λ k. words_bytes (take k c.load.words)) (sym n) ∙ c.load.invariant.so_far ∙ ap (λ k. take (4 * k) c.args.key.now) n
    ∙ ap (λ k. take k c.args.key.now) all ∙ take_all (length c.args.key.now) c.args.key.now (omega arith)
