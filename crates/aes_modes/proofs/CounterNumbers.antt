-- Counter blocks as numbers of 128 bits.
use Rattle.std.proofs.Common.{◌≡◌, ℕ, ◌+◌, ◌-◌, ◌*◌, ◌/◌, ◌%◌, ◌^◌, ◌<◌, ◌≤◌, List, bit_and, ap, sym, ◌∙◌, arith, mod-lt}
use Rattle.std.specs.Int.{w128, from_be_bytes, to_be_bytes}
use Rattle.std.proofs.lemmas.Nat.{pow_pos, pow-add, shr_high, shr_split, shr_below, mul-le, and_mask}
use Rattle.std.proofs.Math.Nat.{mod-eq_of_lt}
use Rattle.aes_modes.specs.Counter.{counter_start, counter_block}

one_less : (n a b : ℕ) → n ≡ (a + 1) * b → 1 ≤ b → n - 1 ≡ a * b + (b - 1)
one_less n a b e some = omega arith

powers : (m : ℕ) → m ≤ 128 → 2 ^ 128 ≡ 2 ^ m * 2 ^ (128 - m)
powers m le = let e : 128 ≡ m + (128 - m) = omega arith in ap (λ k. 2 ^ k) e ∙ pow-add 2 m (128 - m)

-- the m low bits of 128, each of them 1
pub low_bits : (m : ℕ) → m ≤ 128 → (2 ^ 128 - 1) / 2 ^ (128 - m) ≡ 2 ^ m - 1
low_bits m le =
    let some : 1 ≤ 2 ^ m = pow_pos m in
    let other : 1 ≤ 2 ^ (128 - m) = pow_pos (128 - m) in
    let up : 2 ^ m ≡ 2 ^ m - 1 + 1 = omega arith in
    let whole : 2 ^ 128 ≡ (2 ^ m - 1 + 1) * 2 ^ (128 - m) = powers m le ∙ ap (λ a. a * 2 ^ (128 - m)) up in
    ap (λ v. v / 2 ^ (128 - m)) (one_less (2 ^ 128) (2 ^ m - 1) (2 ^ (128 - m)) whole other)
    ∙ shr_high (2 ^ m - 1) (128 - m) (2 ^ (128 - m) - 1) (omega arith)

-- a counter whose low bits don't come to 0 again is a number of 128 bits
pub counter-fits : (v : ℕ) (start : List ℕ) (m i : ℕ) → m ≤ 128 → v < 2 ^ 128 → v ≡ from_be_bytes w128 start
    → counter_start m start + i < 2 ^ m → v + i < 2 ^ 128
unfolding counter_start
counter-fits v start m i le fits is within =
    let low : v % 2 ^ m + i < 2 ^ m = rw is within in
    let sum : 2 ^ ((128 - m) + m) ≡ 2 ^ 128 = let e : (128 - m) + m ≡ 128 = omega arith in ap (λ k. 2 ^ k) e in
    let high : v / 2 ^ m < 2 ^ (128 - m) = shr_below v (128 - m) m (rw sum fits) in
    let room : (v / 2 ^ m + 1) * 2 ^ m ≤ 2 ^ (128 - m) * 2 ^ m =
    mul-le (v / 2 ^ m + 1) (2 ^ m) (2 ^ (128 - m)) (2 ^ m) (omega arith) (omega arith) in
    let whole : 2 ^ 128 ≡ 2 ^ m * 2 ^ (128 - m) = powers m le in
    omega (arith, shr_split v m)

-- and the sum of the start and the block's number
pub counter_block-sum : (m : ℕ) (start : List ℕ) (i : ℕ) → counter_start m start + i < 2 ^ m
    → to_be_bytes w128 (from_be_bytes w128 start + i) ≡ counter_block m start i
unfolding counter_block counter_start
counter_block-sum m start i within =
    let v : ℕ = from_be_bytes w128 start in
    let low : (v % 2 ^ m + i) % 2 ^ m ≡ v % 2 ^ m + i = mod-eq_of_lt within in
    let same : v + i ≡ v / 2 ^ m * 2 ^ m + (v % 2 ^ m + i) = omega (arith, shr_split v m) in
    ap (to_be_bytes w128) (same ∙ ap (λ l. v / 2 ^ m * 2 ^ m + l) (sym low))

pub counter_start-below : (m : ℕ) (start : List ℕ) → counter_start m start < 2 ^ m
unfolding counter_start
counter_start-below m start = mod-lt (from_be_bytes w128 start) (pow_pos m)

-- the counters behind the first, as the code finds them
pub further : (m : ℕ) (start : List ℕ) → m ≤ 128
    → (2 ^ 128 - 1) / 2 ^ (128 - m) - bit_and (from_be_bytes w128 start) ((2 ^ 128 - 1) / 2 ^ (128 - m)) ≡ 2 ^ m - 1 - counter_start m start
unfolding counter_start
further m start le =
    ap (λ low. low - bit_and (from_be_bytes w128 start) low) (low_bits m le)
    ∙ ap (λ v. 2 ^ m - 1 - v) (and_mask (from_be_bytes w128 start) m)
