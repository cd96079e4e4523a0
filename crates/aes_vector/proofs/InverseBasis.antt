-- The basis of the inverse rounds, byte by byte.
use Rattle.std.proofs.Common.{◌≡◌, ℕ, ◌<◌, ◌==◌, true, bit_xor, refl, sym, ap, ◌∙◌, arith}
use Rattle.std.specs.Int.Bits.{xor_assoc}
use Rattle.std.proofs.lemmas.Bool.{agree_below}
use Rattle.std.proofs.lemmas.Nat.{xor_comm, xor_lt}
use Rattle.fips_197.specs.Field.{bit, terms_product, remainder, product, inverse_below, inverse}
use Rattle.fips_197.specs.SBox.{from_bits, inverse_affine, inverse_s_box}
use Rattle.fips_197.proofs.Checks.{same_below}
use Rattle.fips_197.proofs.FieldLaws.{swapped_middle, product-lt}
use Rattle.aes_vector.specs.declared.tables.TheConstants.{INVERSE_BASIS_LOW, INVERSE_BASIS_HIGH, NINE_UPPER, NINE_LOWER, THIRTEEN_UPPER, THIRTEEN_LOWER, ELEVEN_UPPER, ELEVEN_LOWER, FOURTEEN_UPPER, FOURTEEN_LOWER, END_UPPER, END_LOWER}
use Rattle.aes_vector.specs.Halves.{look, low, high, in_tables, inverse_basis, of_inverse}
use Rattle.aes_vector.proofs.Basis.{is_linear, linear-at, low-xor, high-xor, low-lt, xor_left}

-- without 0x63
abbrev pub bare_inverse : ℕ → ℕ
bare_inverse b = in_tables INVERSE_BASIS_LOW INVERSE_BASIS_HIGH b

nine-checked : agree_below (λ b. of_inverse NINE_UPPER NINE_LOWER (inverse_basis b) == bare_inverse (product 9 (inverse_s_box b)))
    (λ _. true) 256 ≡ true
unfolding bit terms_product remainder product inverse_below inverse from_bits inverse_affine inverse_s_box
nine-checked = refl

pub nine-at : (b : ℕ) → b < 256 → of_inverse NINE_UPPER NINE_LOWER (inverse_basis b) ≡ bare_inverse (product 9 (inverse_s_box b))
nine-at b lt = same_below (λ b. of_inverse NINE_UPPER NINE_LOWER (inverse_basis b))
    (λ b. bare_inverse (product 9 (inverse_s_box b))) 256 b nine-checked lt

thirteen-checked : agree_below
    (λ b. of_inverse THIRTEEN_UPPER THIRTEEN_LOWER (inverse_basis b) == bare_inverse (product 13 (inverse_s_box b))) (λ _. true) 256 ≡ true
unfolding bit terms_product remainder product inverse_below inverse from_bits inverse_affine inverse_s_box
thirteen-checked = refl

pub thirteen-at : (b : ℕ) → b < 256
    → of_inverse THIRTEEN_UPPER THIRTEEN_LOWER (inverse_basis b) ≡ bare_inverse (product 13 (inverse_s_box b))
thirteen-at b lt = same_below (λ b. of_inverse THIRTEEN_UPPER THIRTEEN_LOWER (inverse_basis b))
    (λ b. bare_inverse (product 13 (inverse_s_box b))) 256 b thirteen-checked lt

eleven-checked : agree_below (λ b. of_inverse ELEVEN_UPPER ELEVEN_LOWER (inverse_basis b) == bare_inverse
    (product 11 (inverse_s_box b))) (λ _. true) 256 ≡ true
unfolding bit terms_product remainder product inverse_below inverse from_bits inverse_affine inverse_s_box
eleven-checked = refl

pub eleven-at : (b : ℕ) → b < 256 → of_inverse ELEVEN_UPPER ELEVEN_LOWER (inverse_basis b) ≡ bare_inverse (product 11 (inverse_s_box b))
eleven-at b lt = same_below (λ b. of_inverse ELEVEN_UPPER ELEVEN_LOWER (inverse_basis b))
    (λ b. bare_inverse (product 11 (inverse_s_box b))) 256 b eleven-checked lt

fourteen-checked : agree_below
    (λ b. of_inverse FOURTEEN_UPPER FOURTEEN_LOWER (inverse_basis b) == bare_inverse (product 14 (inverse_s_box b))) (λ _. true) 256 ≡ true
unfolding bit terms_product remainder product inverse_below inverse from_bits inverse_affine inverse_s_box
fourteen-checked = refl

pub fourteen-at : (b : ℕ) → b < 256
    → of_inverse FOURTEEN_UPPER FOURTEEN_LOWER (inverse_basis b) ≡ bare_inverse (product 14 (inverse_s_box b))
fourteen-at b lt = same_below (λ b. of_inverse FOURTEEN_UPPER FOURTEEN_LOWER (inverse_basis b))
    (λ b. bare_inverse (product 14 (inverse_s_box b))) 256 b fourteen-checked lt

end-checked : agree_below (λ b. of_inverse END_UPPER END_LOWER (inverse_basis b) == inverse_s_box b) (λ _. true) 256 ≡ true
unfolding bit terms_product remainder product inverse_below inverse from_bits inverse_affine inverse_s_box
end-checked = refl

pub end-at : (b : ℕ) → b < 256 → of_inverse END_UPPER END_LOWER (inverse_basis b) ≡ inverse_s_box b
end-at b lt = same_below (λ b. of_inverse END_UPPER END_LOWER (inverse_basis b)) inverse_s_box 256 b end-checked lt

INVERSE_BASIS_LOW-linear : is_linear INVERSE_BASIS_LOW ≡ true
unfolding is_linear
INVERSE_BASIS_LOW-linear = refl

INVERSE_BASIS_HIGH-linear : is_linear INVERSE_BASIS_HIGH ≡ true
unfolding is_linear
INVERSE_BASIS_HIGH-linear = refl

pub bare_inverse-xor : (a b : ℕ) → a < 256 → b < 256 → bare_inverse (bit_xor a b) ≡ bit_xor (bare_inverse a) (bare_inverse b)
bare_inverse-xor a b ha hb =
    (λ i. bit_xor (look INVERSE_BASIS_LOW (low-xor a b i)) (look INVERSE_BASIS_HIGH (high-xor a b i)))
    ∙ (λ i. bit_xor (linear-at INVERSE_BASIS_LOW INVERSE_BASIS_LOW-linear (low a) (low b) (low-lt a) (low-lt b) i)
    (linear-at INVERSE_BASIS_HIGH INVERSE_BASIS_HIGH-linear (high a) (high b) (omega arith) (omega arith) i))
    ∙ swapped_middle (look INVERSE_BASIS_LOW (low a)) (look INVERSE_BASIS_LOW (low b)) (look INVERSE_BASIS_HIGH (high a))
    (look INVERSE_BASIS_HIGH (high b))

-- a byte of a round: from those of its column, each times a coefficient, and the key's
pub cell_back : (p q r u k : ℕ) → p < 256 → q < 256 → r < 256 → u < 256 → k < 256
    → bit_xor (bit_xor (bit_xor (bit_xor (bare_inverse (product 9 u)) (bare_inverse (product 13 r))) (bare_inverse (product 11 q)))
    (bare_inverse (product 14 p))) (inverse_basis k)
    ≡ inverse_basis (bit_xor (bit_xor (bit_xor (bit_xor (product 14 p) (product 11 q)) (product 13 r)) (product 9 u)) k)
cell_back p q r u k hp hq hr hu hk =
    let a = product 9 u in let b = product 13 r in let c = product 11 q in let d = product 14 p in let e = bit_xor k 99 in
    let ha = product-lt 9 u hu in let hb = product-lt 13 r hr in let hc = product-lt 11 q hq in let hd = product-lt 14 p hp in
    let he = xor_lt 8 k 99 hk (omega arith) in
    let hab = xor_lt 8 _ _ ha hb in let habc = xor_lt 8 _ _ hab hc in let habcd = xor_lt 8 _ _ habc hd in
    sym (bare_inverse-xor (bit_xor (bit_xor (bit_xor a b) c) d) e habcd he
    ∙ (λ i. bit_xor (bare_inverse-xor (bit_xor (bit_xor a b) c) d habc hd i) (bare_inverse e))
    ∙ (λ i. bit_xor (bit_xor (bare_inverse-xor (bit_xor a b) c hab hc i) (bare_inverse d)) (bare_inverse e))
    ∙ (λ i. bit_xor (bit_xor (bit_xor (bare_inverse-xor a b ha hb i) (bare_inverse c)) (bare_inverse d)) (bare_inverse e)))
    ∙ ap bare_inverse (upside_down a b c d k 99)
  where
    upside_down : (a b c d k t : ℕ)
        → bit_xor (bit_xor (bit_xor (bit_xor a b) c) d) (bit_xor k t) ≡ bit_xor (bit_xor (bit_xor (bit_xor (bit_xor d c) b) a) k) t
    upside_down a b c d k t = simp (xor_comm, xor_assoc, xor_left)
