use Rattle.std.proofs.Common.{◌≡◌, ℕ, ◌-◌, ◌<◌, [], ◌∷◌, get_or, refl, arith}
use Rattle.fips_197.specs.Field.{bit, terms_product, remainder, product}
use Rattle.fips_197.specs.KeyExpansion.{power_of_x, round_constant}
use Rattle.fips_197.proofs.Checks.{same_below}
use Rattle.aes_vector.specs.declared.key_expansion.TheConstants.{ROUND_CONSTANTS}
use Rattle.aes_vector.proofs.key_expansion.round_constant.Goals as goal

constant-at : (k : ℕ) → k < 10 → get_or ROUND_CONSTANTS k 0 ≡ power_of_x k
unfolding bit terms_product remainder product power_of_x
constant-at k lt = same_below (λ j. get_or ROUND_CONSTANTS j 0) power_of_x 10 k refl lt

pub returns : goal.returns
unfolding round_constant
returns c =
    let at = constant-at (c.args.i - 1) (omega (arith, c.requires.low, c.requires.high)) in
    λ t. at t ∷ 0 ∷ 0 ∷ 0 ∷ []
