-- The S-box and its inverse take bytes to bytes, and each undoes the other.
use Rattle.std.proofs.Common.{◌≡◌, ℕ, ◌<◌, ◌==◌, true, refl}
use Rattle.std.proofs.lemmas.Bool.{agree_below}
use Rattle.fips_197.specs.Field.{bit, terms_product, remainder, product, inverse_below, inverse}
use Rattle.fips_197.specs.SBox.{from_bits, affine, s_box, inverse_affine, inverse_s_box}
use Rattle.fips_197.proofs.Checks.{same_below, bounded_below}

pub s_box-lt : (x : ℕ) → x < 256 → s_box x < 256
unfolding bit terms_product remainder product inverse_below inverse from_bits affine s_box
s_box-lt x lt = bounded_below s_box 256 256 x refl lt

pub inverse_s_box-lt : (x : ℕ) → x < 256 → inverse_s_box x < 256
unfolding bit terms_product remainder product inverse_below inverse from_bits inverse_affine inverse_s_box
inverse_s_box-lt x lt = bounded_below inverse_s_box 256 256 x refl lt

forth-checked : agree_below (λ x. s_box (inverse_s_box x) == x) (λ _. true) 256 ≡ true
unfolding bit terms_product remainder product inverse_below inverse from_bits affine s_box inverse_affine inverse_s_box
forth-checked = refl

pub s_box-inverse_s_box : (x : ℕ) → x < 256 → s_box (inverse_s_box x) ≡ x
s_box-inverse_s_box x lt = same_below (λ k. s_box (inverse_s_box k)) (λ k. k) 256 x forth-checked lt

back-checked : agree_below (λ x. inverse_s_box (s_box x) == x) (λ _. true) 256 ≡ true
unfolding bit terms_product remainder product inverse_below inverse from_bits affine s_box inverse_affine inverse_s_box
back-checked = refl

pub inverse_s_box-s_box : (x : ℕ) → x < 256 → inverse_s_box (s_box x) ≡ x
inverse_s_box-s_box x lt = same_below (λ k. inverse_s_box (s_box k)) (λ k. k) 256 x back-checked lt
