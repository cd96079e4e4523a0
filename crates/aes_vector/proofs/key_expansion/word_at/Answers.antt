use Rattle.std.proofs.Common.{◌≡◌, ◌+◌, ◌-◌, ◌*◌, take, drop, ap, ◌∙◌, arith}
use Rattle.fips_197.specs.KeyExpansion.{word}
use Rattle.aes_vector.proofs.key_expansion.word_at.Goals as goal

pub returns : goal.returns
unfolding word
returns c =
    let from = 4 * c.args.i in
    let size : from + 4 - from ≡ 4 = omega arith in
    c.copy_from_slice.ensures.after ∙ ap (λ n. take n (drop from c.args.schedule.now)) size
