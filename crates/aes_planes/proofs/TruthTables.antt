-- Planes by truth tables: a number whose bit b says what a plane has for the byte b.
use Rattle.std.proofs.Common.{◌≡◌, ℕ, zero, suc, ◌+◌, ◌-◌, ◌*◌, ◌%◌, ◌^◌, ◌<◌, List, [], ◌∷◌, map, bit_xor, bit_and, ap, refl, sym, ◌∙◌, arith, inl, inr}
use Rattle.std.proofs.lemmas.Bool.{cases_lt}
use Rattle.std.proofs.lemmas.List.Elements.{All-head, All-tail}
use Rattle.std.proofs.lemmas.Nat.Bits.{bit_at_cat_low, bit_at_cat_high, bit_at_lowest}
use Rattle.std.proofs.lemmas.Simd.{zip2_of_maps, map-map}
use lib.Lanes.{zip2}
use native.Mathlib.Numerals.{unary_clauses}
use Rattle.fips_197.specs.Bytes.{AreBytes}
use Rattle.fips_197.specs.Field.{bit}
use Rattle.fips_197.specs.SBox.{from_bits}
use Rattle.aes_planes.specs.Planes.{bits_at}
use Rattle.aes_planes.proofs.Bits.{bit-lt, bit-xor, bit-and, bits_at-xor, bits_at-and}

-- ---- a number by its bits

below_double : (t r p : ℕ) → t < 2 → r < p → r + t * p < p * 2
below_double zero r p ht hr = omega (arith, ht, hr)
below_double (suc zero) r p ht hr = omega (arith, hr)
below_double (suc (suc t)) r p ht hr = absurd (omega arith)

from_bits-lt : (f : ℕ → ℕ) → ((k : ℕ) → f k < 2) → (n : ℕ) → from_bits f n < 2 ^ n
unfolding from_bits
from_bits-lt f h zero = omega arith
from_bits-lt f h (suc n) = simp unary_clauses (below_double (f n) (from_bits f n) (2 ^ n) (h n) (from_bits-lt f h n))

below_two : (t : ℕ) → t < 2 → t % 2 ≡ t
below_two t lt = omega arith

pub bit-from_bits : (f : ℕ → ℕ) → ((k : ℕ) → f k < 2) → (n k : ℕ) → k < n → bit (from_bits f n) k ≡ f k
unfolding from_bits bit
bit-from_bits f h zero k lt = absurd (omega arith)
bit-from_bits f h (suc n) k lt =
    let turned : from_bits f n + f n * 2 ^ n ≡ f n * 2 ^ n + from_bits f n = omega arith in
    ap (λ m. bit m k) turned ∙ elim (cases_lt k n) [
      | inl before ↦ bit_at_cat_low (f n) n (from_bits f n) k before ∙ bit-from_bits f h n k before
      | inr behind ↦
          let end : k ≡ n = omega arith in
          let none : n - n ≡ 0 = omega arith in
          ap (bit (f n * 2 ^ n + from_bits f n)) end
          ∙ bit_at_cat_high (f n) n (from_bits f n) n (from_bits-lt f h n) (omega arith)
          ∙ ap (bit (f n)) none ∙ bit_at_lowest (f n) ∙ below_two (f n) (h n) ∙ ap f (sym end)
    ]

-- ---- planes

-- for each byte of x the plane p has as bit j the bit of n that the byte numbers
pub record Has (j : ℕ) (x p : List ℕ) (n : ℕ) : Type 0 where
  pub is : bits_at j p ≡ map (bit n) x

ext_bytes : (f g : ℕ → ℕ) (x : List ℕ) → AreBytes x → ((b : ℕ) → b < 256 → f b ≡ g b) → map f x ≡ map g x
ext_bytes f g [] bytes same = refl
ext_bytes f g (b ∷ x) bytes same =
    let here = same b (All-head (λ b. b < 256) b x bytes) in
    λ i. here i ∷ ext_bytes f g x (All-tail (λ b. b < 256) b x bytes) same i

-- the truth tables of a byte's bits
abbrev pub bit0_table : ℕ
bit0_table = 0xAAAAAAAAAAAAAAAAAAAAAAAAAAAAAAAAAAAAAAAAAAAAAAAAAAAAAAAAAAAAAAAA

abbrev pub bit1_table : ℕ
bit1_table = 0xCCCCCCCCCCCCCCCCCCCCCCCCCCCCCCCCCCCCCCCCCCCCCCCCCCCCCCCCCCCCCCCC

abbrev pub bit2_table : ℕ
bit2_table = 0xF0F0F0F0F0F0F0F0F0F0F0F0F0F0F0F0F0F0F0F0F0F0F0F0F0F0F0F0F0F0F0F0

abbrev pub bit3_table : ℕ
bit3_table = 0xFF00FF00FF00FF00FF00FF00FF00FF00FF00FF00FF00FF00FF00FF00FF00FF00

abbrev pub bit4_table : ℕ
bit4_table = 0xFFFF0000FFFF0000FFFF0000FFFF0000FFFF0000FFFF0000FFFF0000FFFF0000

abbrev pub bit5_table : ℕ
bit5_table = 0xFFFFFFFF00000000FFFFFFFF00000000FFFFFFFF00000000FFFFFFFF00000000

abbrev pub bit6_table : ℕ
bit6_table = 0xFFFFFFFFFFFFFFFF0000000000000000FFFFFFFFFFFFFFFF0000000000000000

abbrev pub bit7_table : ℕ
bit7_table = 0xFFFFFFFFFFFFFFFFFFFFFFFFFFFFFFFF00000000000000000000000000000000

pub begun : {j : ℕ} {x p : List ℕ} (i n : ℕ) → n ≡ from_bits (λ b. bit b i) 256 → AreBytes x → bits_at j p ≡ bits_at i x → Has j x p n
unfolding bits_at
begun {x = x} i n table bytes e = record {
  is = e ∙ ext_bytes (λ b. bit b i) (bit n) x bytes
      (λ b lt. sym (ap (λ m. bit m b) table ∙ bit-from_bits (λ b. bit b i) (λ k. bit-lt k i) 256 b lt));
}

-- the same, where the plane is one of what f makes of each byte
pub begun_at : {j : ℕ} {x p : List ℕ} (f : ℕ → ℕ) (i n : ℕ) → n ≡ from_bits (λ b. bit (f b) i) 256 → AreBytes x
    → bits_at j p ≡ bits_at i (map f x) → Has j x p n
unfolding bits_at
begun_at {x = x} f i n table bytes e = record {
  is = e ∙ map-map (λ b. bit b i) f x ∙ ext_bytes (λ b. bit (f b) i) (bit n) x bytes
      (λ b lt. sym (ap (λ m. bit m b) table ∙ bit-from_bits (λ b. bit (f b) i) (λ k. bit-lt (f k) i) 256 b lt));
}

pub with_xor : {j : ℕ} {x a b : List ℕ} {n m : ℕ} → Has j x a n → Has j x b m → Has j x (zip2 bit_xor a b) (bit_xor n m)
with_xor {j = j} {x = x} {a = a} {b = b} {n = n} {m = m} ha hb = record {
  is = bits_at-xor j a b ∙ zip2_of_maps bit_xor (bit n) (bit m) x ha.is hb.is
      ∙ (λ i. map (λ k. sym (bit-xor n m k) i) x);
}

pub with_and : {j : ℕ} {x a b : List ℕ} {n m : ℕ} → Has j x a n → Has j x b m → Has j x (zip2 bit_and a b) (bit_and n m)
with_and {j = j} {x = x} {a = a} {b = b} {n = n} {m = m} ha hb = record {
  is = bits_at-and j a b ∙ zip2_of_maps bit_and (bit n) (bit m) x ha.is hb.is
      ∙ (λ i. map (λ k. sym (bit-and n m k) i) x);
}

-- a plane whose truth table is that of bit i of what g makes of each byte
pub ended : {j : ℕ} {x p : List ℕ} {n : ℕ} (g : ℕ → ℕ) (i : ℕ) → AreBytes x → Has j x p n → n ≡ from_bits (λ b. bit (g b) i) 256
    → bits_at j p ≡ bits_at i (map g x)
unfolding bits_at
ended {x = x} {n = n} g i bytes h table =
    h.is ∙ ext_bytes (bit n) (λ b. bit (g b) i) x bytes
    (λ b lt. ap (λ m. bit m b) table ∙ bit-from_bits (λ b. bit (g b) i) (λ k. bit-lt (g k) i) 256 b lt)
    ∙ sym (map-map (λ b. bit b i) g x)
