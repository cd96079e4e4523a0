-- The laws of the field that the cipher rests on: a product goes through a sum, is a byte, and each byte
-- but 0 has an inverse.
use Rattle.std.proofs.Common.{◌≡◌, ℕ, zero, suc, ◌+◌, ◌*◌, ◌/◌, ◌%◌, ◌^◌, ◌<◌, ◌≤◌, ◌==◌, true, bit_xor, ap, refl, sym, subst, ◌∙◌, arith, add-zero}
use Rattle.std.specs.Int.Bits.{xor_assoc, xor_zero_l, xor_zero_r, xor_self}
use Rattle.std.proofs.lemmas.Nat.{xor_comm, xor_lt, xor_shr, xor_mod, xor_block, pow-add, pow_pos, mul-le, shr_split}
use Rattle.std.proofs.lemmas.Bool.{agree_below}
use Rattle.std.proofs.Math.Pow.{pow_mono, shr_lt}
use Rattle.std.proofs.Math.Nat.{mod-lt, mod-eq_of_lt}
use Rattle.fips_197.specs.Field.{bit, terms_product, remainder, product, inverse_below, inverse}
use Rattle.fips_197.proofs.Checks.{same_below}

-- the middle two of four change places
pub swapped_middle : (a b c d : ℕ) → bit_xor (bit_xor a b) (bit_xor c d) ≡ bit_xor (bit_xor a c) (bit_xor b d)
swapped_middle a b c d =
    xor_assoc a b (bit_xor c d)
    ∙ ap (bit_xor a) (sym (xor_assoc b c d) ∙ ap (λ x. bit_xor x d) (xor_comm b c) ∙ xor_assoc c b d)
    ∙ sym (xor_assoc a c (bit_xor b d))

bit-lt : (a i : ℕ) → bit a i < 2
unfolding bit
bit-lt a i = omega arith

bit-xor : (a b i : ℕ) → bit (bit_xor a b) i ≡ bit_xor (bit a i) (bit b i)
unfolding bit
bit-xor a b i = ap (λ x. x % 2 ^ 1) (xor_shr a b i) ∙ xor_mod (a / 2 ^ i) (b / 2 ^ i) 1

-- a number times a sum of two bits
sum_of_bits-times : (s t m : ℕ) → s < 2 → t < 2 → bit_xor s t * m ≡ bit_xor (s * m) (t * m)
sum_of_bits-times zero t m hs ht = sym (ap (λ x. bit_xor x (t * m)) (let z : 0 * m ≡ 0 = omega arith in z) ∙ xor_zero_l (t * m))
sum_of_bits-times (suc zero) zero m hs ht = sym (ap (bit_xor (1 * m)) (let z : 0 * m ≡ 0 = omega arith in z) ∙ xor_zero_r (1 * m))
sum_of_bits-times (suc zero) (suc zero) m hs ht = let z : 0 * m ≡ 0 = omega arith in z ∙ sym (xor_self (1 * m))
sum_of_bits-times (suc zero) (suc (suc t)) m hs ht = absurd (omega arith)
sum_of_bits-times (suc (suc s)) t m hs ht = absurd (omega arith)

-- a bit times a sum
bit-times-sum : (t a b : ℕ) → t < 2 → t * bit_xor a b ≡ bit_xor (t * a) (t * b)
bit-times-sum zero a b h =
    let none : 0 * bit_xor a b ≡ 0 = omega arith in
    let left : 0 ≡ 0 * a = omega arith in
    let right : 0 ≡ 0 * b = omega arith in
    none ∙ (λ i. bit_xor (left i) (right i))
bit-times-sum (suc zero) a b h =
    let one : 1 * bit_xor a b ≡ bit_xor a b = omega arith in
    let left : a ≡ 1 * a = omega arith in
    let right : b ≡ 1 * b = omega arith in
    one ∙ (λ i. bit_xor (left i) (right i))
bit-times-sum (suc (suc t)) a b h = absurd (omega arith)

-- a sum times a power of x
shifted_sum : (a b n : ℕ) → bit_xor a b * 2 ^ n ≡ bit_xor (a * 2 ^ n) (b * 2 ^ n)
shifted_sum a b n =
    sym ((λ i. bit_xor (sym (add-zero (a * 2 ^ n)) i) (sym (add-zero (b * 2 ^ n)) i))
    ∙ xor_block n a b 0 0 (pow_pos n) (pow_pos n) ∙ add-zero (bit_xor a b * 2 ^ n))

terms_product-xor : (n a b c : ℕ) → terms_product n a (bit_xor b c) ≡ bit_xor (terms_product n a b) (terms_product n a c)
unfolding terms_product
terms_product-xor zero a b c = refl
terms_product-xor (suc n) a b c =
    (λ i. bit_xor (terms_product-xor n a b c i) (bit a n * shifted_sum b c n i))
    ∙ ap (bit_xor (bit_xor (terms_product n a b) (terms_product n a c)))
    (bit-times-sum (bit a n) (b * 2 ^ n) (c * 2 ^ n) (bit-lt a n))
    ∙ swapped_middle (terms_product n a b) (terms_product n a c) (bit a n * (b * 2 ^ n)) (bit a n * (c * 2 ^ n))

-- a bit times a shift of the modulus, as `remainder` takes it away
taken : ℕ → ℕ → ℕ
taken n a = bit a (8 + n) * (0x11B * 2 ^ n)

taken-xor : (n a b : ℕ) → taken n (bit_xor a b) ≡ bit_xor (taken n a) (taken n b)
unfolding taken
taken-xor n a b =
    ap (λ t. t * (0x11B * 2 ^ n)) (bit-xor a b (8 + n))
    ∙ sum_of_bits-times (bit a (8 + n)) (bit b (8 + n)) (0x11B * 2 ^ n) (bit-lt a (8 + n)) (bit-lt b (8 + n))

remainder-xor : (n a b : ℕ) → remainder n (bit_xor a b) ≡ bit_xor (remainder n a) (remainder n b)
unfolding remainder taken
remainder-xor zero a b = refl
remainder-xor (suc n) a b =
    ap (λ t. remainder n (bit_xor (bit_xor a b) t)) (taken-xor n a b)
    ∙ ap (remainder n) (swapped_middle a b (taken n a) (taken n b))
    ∙ remainder-xor n (bit_xor a (taken n a)) (bit_xor b (taken n b))

-- the product goes through a sum
pub product-xor : (a b c : ℕ) → product a (bit_xor b c) ≡ bit_xor (product a b) (product a c)
unfolding product
product-xor a b c = ap (remainder 7) (terms_product-xor 8 a b c) ∙ remainder-xor 7 (terms_product 8 a b) (terms_product 8 a c)

bit-times-lt : (t a m : ℕ) → t < 2 → a < m → t * a < m
bit-times-lt zero a m ht ha = omega arith
bit-times-lt (suc zero) a m ht ha = omega arith
bit-times-lt (suc (suc t)) a m ht ha = absurd (omega arith)

terms_product-lt : (n a b : ℕ) → n ≤ 8 → b < 256 → terms_product n a b < 2 ^ 15
unfolding terms_product
terms_product-lt zero a b h hb = omega arith
terms_product-lt (suc n) a b h hb =
    let power : 2 ^ n ≤ 2 ^ 7 = pow_mono (let le : n ≤ 7 = omega arith in le) in
    let shifted : b * 2 ^ n < 2 ^ 15 = omega (arith, mul-le b (2 ^ n) 255 (2 ^ 7) (omega arith) power) in
    xor_lt 15 (terms_product n a b) (bit a n * (b * 2 ^ n)) (terms_product-lt n a b (omega arith) hb)
    (bit-times-lt (bit a n) (b * 2 ^ n) (2 ^ 15) (bit-lt a n) shifted)

-- with what is taken away the term at x^(8 + n) is gone, where it was the highest
cleared_by_quotient : (n a q r : ℕ) → a ≡ q * 2 ^ (8 + n) + r → r < 2 ^ (8 + n) → q < 2
    → bit_xor a (q * (0x11B * 2 ^ n)) < 2 ^ (8 + n)
cleared_by_quotient n a zero r e lt two =
    let none : 0 * (0x11B * 2 ^ n) ≡ 0 = omega arith in
    let rest : a ≡ r = omega arith in
    rw (none, xor_zero_r, rest) lt
cleared_by_quotient n a (suc zero) r e lt two =
    let power : 2 ^ (8 + n) ≡ 2 ^ 8 * 2 ^ n = pow-add 2 8 n in
    let low : 0x1B * 2 ^ n < 2 ^ (8 + n) = omega (arith, pow_pos n) in
    let split : 1 * (0x11B * 2 ^ n) ≡ 1 * 2 ^ (8 + n) + 0x1B * 2 ^ n = omega arith in
    let gone : bit_xor a (1 * (0x11B * 2 ^ n)) ≡ bit_xor r (0x1B * 2 ^ n) =
    (λ i. bit_xor (e i) (split i)) ∙ xor_block (8 + n) 1 1 r (0x1B * 2 ^ n) lt low
    ∙ (let z : 0 * 2 ^ (8 + n) + bit_xor r (0x1B * 2 ^ n) ≡ bit_xor r (0x1B * 2 ^ n) = omega arith in z) in
    rw gone (xor_lt (8 + n) r (0x1B * 2 ^ n) lt low)
cleared_by_quotient n a (suc (suc q)) r e lt two = absurd (omega arith)

cleared : (n a : ℕ) → a < 2 ^ (1 + (8 + n)) → bit_xor a (taken n a) < 2 ^ (8 + n)
unfolding taken bit
cleared n a h =
    let two : a / 2 ^ (8 + n) < 2 = shr_lt 1 (8 + n) h in
    let same : a / 2 ^ (8 + n) % 2 ≡ a / 2 ^ (8 + n) = mod-eq_of_lt two in
    rw same (cleared_by_quotient n a (a / 2 ^ (8 + n)) (a % 2 ^ (8 + n)) (sym (shr_split a (8 + n)))
    (mod-lt a (pow_pos (8 + n))) two)

remainder-lt : (n a : ℕ) → a < 2 ^ (8 + n) → remainder n a < 256
unfolding remainder taken
remainder-lt zero a h = h
remainder-lt (suc n) a h =
    let next : 8 + suc n ≡ 1 + (8 + n) = omega arith in
    remainder-lt n (bit_xor a (taken n a)) (cleared n a (subst (λ k. a < 2 ^ k) next h))

-- a product is a byte
pub product-lt : (a b : ℕ) → b < 256 → product a b < 256
unfolding product
product-lt a b h = remainder-lt 7 (terms_product 8 a b) (terms_product-lt 8 a b (omega arith) h)

product_inverse_checked : agree_below (λ k. product (suc k) (inverse (suc k)) == 1) (λ _. true) 255 ≡ true
unfolding bit terms_product remainder product inverse_below inverse
product_inverse_checked = refl

-- each byte but 0 has an inverse, and `inverse` is it
pub product-inverse : (b : ℕ) → 0 < b → b < 256 → product b (inverse b) ≡ 1
product-inverse zero pos lt = absurd (omega arith)
product-inverse (suc k) pos lt = same_below (λ j. product (suc j) (inverse (suc j)))
    (λ _. 1) 255 k product_inverse_checked (omega arith)
