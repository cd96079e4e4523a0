-- A block doubled, as the code does it.
use Rattle.std.proofs.Common.{◌≡◌, ℕ, ◌*◌, ◌/◌, ◌%◌, ◌^◌, ◌<◌, ◌≤◌, List, Bool, bit_xor, if◌then◌else◌, nat_lt, ap, sym, ◌∙◌, arith, inl, inr}
use Rattle.std.specs.Int.{w128, from_be_bytes, to_be_bytes}
use Rattle.std.proofs.lemmas.Bool.{lt-ltb, le-ltb, cases_lt}
use Rattle.std.specs.Int.Bits.{xor_zero_r}
use Rattle.aes_cmac.specs.Cmac.{doubled, reduction}

-- a number of 128 bits, doubled by a test of its highest bit
by_test : ℕ → Bool → List ℕ
by_test n small = to_be_bytes w128 (if small then 2 * n else bit_xor (2 * n % 2 ^ 128) reduction)

is_doubled : (block : List ℕ) (n : ℕ) → n ≡ from_be_bytes w128 block → by_test n (nat_lt n (2 ^ 127)) ≡ doubled block
unfolding by_test doubled
is_doubled block n is = ap (λ v. by_test v (nat_lt v (2 ^ 127))) is

doubled-low : (block : List ℕ) (n : ℕ) → n ≡ from_be_bytes w128 block → n / 2 ^ 127 ≡ 0 → to_be_bytes w128 (n * 2 % 2 ^ 128) ≡ doubled block
unfolding by_test
doubled-low block n is low =
    let small : n < 2 ^ 127 = omega arith in
    let value : n * 2 % 2 ^ 128 ≡ 2 * n = omega arith in
    ap (to_be_bytes w128) value ∙ sym (ap (by_test n) (lt-ltb n (2 ^ 127) small)) ∙ is_doubled block n is

doubled-high : (block : List ℕ) (n : ℕ) → n ≡ from_be_bytes w128 block → (n / 2 ^ 127 ≡ 0 → ⊥)
    → to_be_bytes w128 (bit_xor (n * 2 % 2 ^ 128) reduction) ≡ doubled block
unfolding by_test
doubled-high block n is high =
    let large : 2 ^ 127 ≤ n = omega arith in
    let value : n * 2 % 2 ^ 128 ≡ 2 * n % 2 ^ 128 = omega arith in
    ap (λ v. to_be_bytes w128 (bit_xor v reduction)) value ∙ sym (ap (by_test n) (le-ltb n (2 ^ 127) large)) ∙ is_doubled block n is

-- the highest bit, 0 or 1, times what is added where it is 1
pub doubled-both : (block : List ℕ) (n : ℕ) → n ≡ from_be_bytes w128 block → n < 2 ^ 128
    → to_be_bytes w128 (bit_xor (n * 2 % 2 ^ 128) (n / 2 ^ 127 * reduction)) ≡ doubled block
doubled-both block n is fits = elim (cases_lt n (2 ^ 127)) [
  | inl small ↦
      let low : n / 2 ^ 127 ≡ 0 = omega arith in
      let none : n / 2 ^ 127 * 0x87 ≡ 0 = omega arith in
      ap (λ v. to_be_bytes w128 (bit_xor (n * 2 % 2 ^ 128) v)) none ∙ ap (to_be_bytes w128) (xor_zero_r (n * 2 % 2 ^ 128))
      ∙ doubled-low block n is low
  | inr large ↦
      let high : n / 2 ^ 127 ≡ 0 → ⊥ = omega arith in
      let one : n / 2 ^ 127 * 0x87 ≡ 0x87 = omega arith in
      ap (λ v. to_be_bytes w128 (bit_xor (n * 2 % 2 ^ 128) v)) one ∙ doubled-high block n is high
]
