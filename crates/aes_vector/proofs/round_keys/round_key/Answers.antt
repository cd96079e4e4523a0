use Rattle.std.proofs.Common.{◌≡◌, ◌+◌, ◌-◌, ◌*◌, take, drop, ap, ◌∙◌, arith}
use Rattle.std.proofs.lemmas.List.{take-take}
use Rattle.fips_197.specs.Cipher.{round_key}
use Rattle.aes_vector.proofs.round_keys.round_key.Goals as goal

pub returns : goal.returns
unfolding round_key
returns c =
    let from = 16 * c.args.r in
    let rest = drop from c.args.keys.now in
    let size : from + 16 - from ≡ 16 = omega arith in
    ap (λ n. take 16 (take n rest)) size ∙ take-take 16 16 rest (omega arith)
