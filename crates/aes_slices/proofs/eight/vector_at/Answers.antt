use Rattle.std.proofs.Common.{◌≡◌, ◌+◌, ◌-◌, ◌*◌, take, drop, ap, ◌∙◌, arith}
use Rattle.std.proofs.lemmas.List.{take-take}
use Rattle.fips_197.specs.Texts.{block_of}
use Rattle.aes_slices.proofs.eight.vector_at.Goals as goal

pub returns : goal.returns
unfolding block_of
returns c =
    let from = 16 * c.args.i in
    let rest = drop from c.args.text.now in
    let size : from + 16 - from ≡ 16 = omega arith in
    ap (λ n. take 16 (take n rest)) size ∙ take-take 16 16 rest (omega arith)
