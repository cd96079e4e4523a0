-- The entries of the S-box and of its inverse.
use Rattle.std.proofs.Common.{◌≡◌, ℕ, ◌<◌, ◌==◌, true, get_or, refl}
use Rattle.std.proofs.lemmas.Bool.{agree_below}
use Rattle.fips_197.specs.Field.{bit, terms_product, remainder, product, inverse_below, inverse}
use Rattle.fips_197.specs.SBox.{from_bits, affine, s_box, inverse_affine, inverse_s_box}
use Rattle.aes_block.specs.declared.tables.TheConstants.{S_BOX, INVERSE_S_BOX}
use Rattle.fips_197.proofs.Checks.{same_below}

S_BOX-checked : agree_below (λ k. get_or S_BOX k 0 == s_box k) (λ _. true) 256 ≡ true
unfolding bit terms_product remainder product inverse_below inverse from_bits affine s_box
S_BOX-checked = refl

pub S_BOX-at : (x : ℕ) → x < 256 → get_or S_BOX x 0 ≡ s_box x
S_BOX-at x lt = same_below (λ k. get_or S_BOX k 0) s_box 256 x S_BOX-checked lt

INVERSE_S_BOX-checked : agree_below (λ k. get_or INVERSE_S_BOX k 0 == inverse_s_box k) (λ _. true) 256 ≡ true
unfolding bit terms_product remainder product inverse_below inverse from_bits inverse_affine inverse_s_box
INVERSE_S_BOX-checked = refl

pub INVERSE_S_BOX-at : (x : ℕ) → x < 256 → get_or INVERSE_S_BOX x 0 ≡ inverse_s_box x
INVERSE_S_BOX-at x lt = same_below (λ k. get_or INVERSE_S_BOX k 0) inverse_s_box 256 x INVERSE_S_BOX-checked lt
