-- Bits of two vectors that change places.
use Rattle.std.proofs.Common.{◌≡◌, ℕ, zero, suc, ◌+◌, ◌-◌, ◌*◌, ◌/◌, ◌%◌, ◌^◌, ◌<◌, List, [], ◌∷◌, length, replicate, bit_xor, bit_and, ap, refl, sym, ◌∙◌, arith, inl, inr}
use lib.Lanes.{zip2}
use Rattle.std.specs.Int.Bits.{xor_assoc, xor_zero_r, xor_self}
use Rattle.std.proofs.lemmas.Bool.{cases_lt}
use Rattle.std.proofs.lemmas.Nat.{xor_comm, xor_lt, and_mask, and_le_r, shr-shr, shr_split, pow_pos}
use Rattle.std.proofs.lemmas.Nat.Bits.{bit_at-zero, bit_at_cat_low, bit_at_cat_high}
use Rattle.fips_197.specs.Field.{bit}
use Rattle.aes_planes.specs.Planes.{bits_at}
use Rattle.aes_planes.proofs.Bits.{bit-lt, bit-xor, bit-and}

-- ---- a bit of each lane

pub lanes_left : (f : ℕ → ℕ → ℕ) (k m : ℕ) (a b : List ℕ) → length a ≡ length b → ((x y : ℕ) → bit (f x y) k ≡ bit x m)
    → bits_at k (zip2 f a b) ≡ bits_at m a
unfolding bits_at
lanes_left f k m [] b e same = refl
lanes_left f k m (x ∷ a) [] e same = absurd (omega arith)
lanes_left f k m (x ∷ a) (y ∷ b) e same = λ i. same x y i ∷ lanes_left f k m a b (omega arith) same i

pub lanes_right : (f : ℕ → ℕ → ℕ) (k m : ℕ) (a b : List ℕ) → length a ≡ length b → ((x y : ℕ) → bit (f x y) k ≡ bit y m)
    → bits_at k (zip2 f a b) ≡ bits_at m b
unfolding bits_at
lanes_right f k m [] [] e same = refl
lanes_right f k m [] (y ∷ b) e same = absurd (omega arith)
lanes_right f k m (x ∷ a) [] e same = absurd (omega arith)
lanes_right f k m (x ∷ a) (y ∷ b) e same = λ i. same x y i ∷ lanes_right f k m a b (omega arith) same i

-- ---- what changes places at a lane

-- the bits that differ and stand at ones of the mask
abbrev pub moved_of : ℕ → ℕ → ℕ → ℕ → ℕ
moved_of mask by x y = bit_and (bit_xor (x / 2 ^ by) y) mask

abbrev pub first_of : ℕ → ℕ → ℕ → ℕ → ℕ
first_of mask by x y = bit_xor x (moved_of mask by x y * 2 ^ by % 2 ^ 8)

abbrev pub second_of : ℕ → ℕ → ℕ → ℕ → ℕ
second_of mask by x y = bit_xor y (moved_of mask by x y)

abbrev Shifted : List ℕ → List ℕ → List ℕ
Shifted a b = zip2 (λ x y. x / 2 ^ y) a b

abbrev Moved : ℕ → ℕ → ℕ → List ℕ → List ℕ → List ℕ
Moved mask by n a b = zip2 bit_and (zip2 bit_xor (Shifted a (replicate n by)) b) (replicate n mask)

pub second_lanes : (mask by n : ℕ) (a b : List ℕ) → length a ≡ n → length b ≡ n
    → zip2 bit_xor b (Moved mask by n a b) ≡ zip2 (second_of mask by) a b
second_lanes mask by n [] [] ea eb = refl
second_lanes mask by n [] (y ∷ b) ea eb = absurd (omega arith)
second_lanes mask by n (x ∷ a) [] ea eb = absurd (omega arith)
second_lanes mask by zero (x ∷ a) (y ∷ b) ea eb = absurd (omega arith)
second_lanes mask by (suc n) (x ∷ a) (y ∷ b) ea eb =
    ap (λ l. second_of mask by x y ∷ l) (second_lanes mask by n a b (omega arith) (omega arith))

pub first_lanes : (mask by n : ℕ) (a b : List ℕ) → length a ≡ n → length b ≡ n
    → zip2 bit_xor a (zip2 (λ x y. x * 2 ^ y % 2 ^ 8) (Moved mask by n a b) (replicate n by)) ≡ zip2 (first_of mask by) a b
first_lanes mask by n [] b ea eb = refl
first_lanes mask by n (x ∷ a) [] ea eb = absurd (omega arith)
first_lanes mask by zero (x ∷ a) (y ∷ b) ea eb = absurd (omega arith)
first_lanes mask by (suc n) (x ∷ a) (y ∷ b) ea eb =
    ap (λ l. first_of mask by x y ∷ l) (first_lanes mask by n a b (omega arith) (omega arith))

-- ---- its bits

and_one : (t : ℕ) → t < 2 → bit_and t 1 ≡ t
and_one t lt = and_mask t 1 ∙ (let small : t % 2 ^ 1 ≡ t = omega arith in small)

and_none : (t : ℕ) → bit_and t 0 ≡ 0
and_none t = omega (arith, and_le_r t 0)

xor_gone : (a b : ℕ) → bit_xor a (bit_xor b a) ≡ b
xor_gone a b = ap (bit_xor a) (xor_comm b a) ∙ sym (xor_assoc a a b) ∙ (λ i. bit_xor (xor_self a i) b) ∙ xor_comm 0 b ∙ xor_zero_r b

bit-shr : (x by k : ℕ) → bit (x / 2 ^ by) k ≡ bit x (k + by)
unfolding bit
bit-shr x by k =
    let turned : by + k ≡ k + by = omega arith in
    ap (λ n. n % 2) (shr-shr x by k) ∙ ap (λ n. x / 2 ^ n % 2) turned

differing : (x y by k : ℕ) → bit (bit_xor (x / 2 ^ by) y) k ≡ bit_xor (bit x (k + by)) (bit y k)
differing x y by k = bit-xor (x / 2 ^ by) y k ∙ ap (λ t. bit_xor t (bit y k)) (bit-shr x by k)

moved-one : (mask by k x y : ℕ) → bit mask k ≡ 1 → bit (moved_of mask by x y) k ≡ bit_xor (bit x (k + by)) (bit y k)
moved-one mask by k x y one =
    bit-and (bit_xor (x / 2 ^ by) y) mask k
    ∙ (λ t. bit_and (differing x y by k t) (one t))
    ∙ and_one (bit_xor (bit x (k + by)) (bit y k)) (xor_lt 1 (bit x (k + by)) (bit y k) (bit-lt x (k + by)) (bit-lt y k))

moved-none : (mask by k x y : ℕ) → bit mask k ≡ 0 → bit (moved_of mask by x y) k ≡ 0
moved-none mask by k x y none =
    bit-and (bit_xor (x / 2 ^ by) y) mask k ∙ ap (bit_and (bit (bit_xor (x / 2 ^ by) y) k)) none
    ∙ and_none (bit (bit_xor (x / 2 ^ by) y) k)

pub second-moved : (mask by k x y : ℕ) → bit mask k ≡ 1 → bit (second_of mask by x y) k ≡ bit x (k + by)
second-moved mask by k x y one =
    bit-xor y (moved_of mask by x y) k ∙ ap (bit_xor (bit y k)) (moved-one mask by k x y one)
    ∙ xor_gone (bit y k) (bit x (k + by))

pub second-kept : (mask by k x y : ℕ) → bit mask k ≡ 0 → bit (second_of mask by x y) k ≡ bit y k
second-kept mask by k x y none =
    bit-xor y (moved_of mask by x y) k ∙ ap (bit_xor (bit y k)) (moved-none mask by k x y none) ∙ xor_zero_r (bit y k)

-- a bit below 8 of what is cut to 8 bits
bit-cut : (z k : ℕ) → k < 8 → bit (z % 2 ^ 8) k ≡ bit z k
unfolding bit
bit-cut z k lt = sym (bit_at_cat_low (z / 2 ^ 8) 8 (z % 2 ^ 8) k lt) ∙ ap (λ n. n / 2 ^ k % 2) (shr_split z 8)

no_more : (z : ℕ) → z ≡ z + 0
no_more z = omega arith

bit-shl : (m by k : ℕ) → bit (m * 2 ^ by) (k + by) ≡ bit m k
unfolding bit
bit-shl m by k =
    let back : k + by - by ≡ k = omega arith in
    ap (λ n. n / 2 ^ (k + by) % 2) (no_more (m * 2 ^ by))
    ∙ bit_at_cat_high m by 0 (k + by) (pow_pos by) (omega arith) ∙ ap (λ n. m / 2 ^ n % 2) back

bit-shl_below : (m by k : ℕ) → k < by → bit (m * 2 ^ by) k ≡ 0
unfolding bit
bit-shl_below m by k lt =
    ap (λ n. n / 2 ^ k % 2) (no_more (m * 2 ^ by)) ∙ bit_at_cat_low m by 0 k lt ∙ bit_at-zero k

pub first-moved : (mask by k x y : ℕ) → k + by < 8 → bit mask k ≡ 1 → bit (first_of mask by x y) (k + by) ≡ bit y k
first-moved mask by k x y lt one =
    let m : ℕ = moved_of mask by x y in
    bit-xor x (m * 2 ^ by % 2 ^ 8) (k + by)
    ∙ ap (bit_xor (bit x (k + by))) (bit-cut (m * 2 ^ by) (k + by) lt ∙ bit-shl m by k ∙ moved-one mask by k x y one
    ∙ xor_comm (bit x (k + by)) (bit y k))
    ∙ xor_gone (bit x (k + by)) (bit y k)

moved-first_none : (mask by k x y : ℕ) → bit (mask * 2 ^ by) k ≡ 0 → bit (moved_of mask by x y * 2 ^ by) k ≡ 0
moved-first_none mask by k x y none = elim (cases_lt k by) [
  | inl below ↦ bit-shl_below (moved_of mask by x y) by k below
  | inr above ↦
      let m : ℕ = k - by in
      let sum : k ≡ m + by = omega arith in
      let open_ : bit mask m ≡ 0 = sym (bit-shl mask by m) ∙ ap (bit (mask * 2 ^ by)) (sym sum) ∙ none in
      ap (bit (moved_of mask by x y * 2 ^ by)) sum ∙ bit-shl (moved_of mask by x y) by m ∙ moved-none mask by m x y open_
]

pub first-kept : (mask by k x y : ℕ) → k < 8 → bit (mask * 2 ^ by) k ≡ 0 → bit (first_of mask by x y) k ≡ bit x k
first-kept mask by k x y lt none =
    let m : ℕ = moved_of mask by x y in
    bit-xor x (m * 2 ^ by % 2 ^ 8) k
    ∙ ap (bit_xor (bit x k)) (bit-cut (m * 2 ^ by) k lt ∙ moved-first_none mask by k x y none) ∙ xor_zero_r (bit x k)
