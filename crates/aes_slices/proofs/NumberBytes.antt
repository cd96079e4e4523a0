-- The bytes of a number of 128 bits, in two halves of 64.
use Rattle.std.proofs.Common.{◌≡◌, ℕ, zero, suc, ◌/◌, ◌%◌, ◌^◌, ◌<◌, [], ◌∷◌, ◌++◌, reverse, ap, refl, arith, mod-lt, lit<}
use Rattle.std.specs.Int.{w64, w128, byte_at, bytes_low_first, to_be_bytes, to_le_bytes, swap_bytes}
use Rattle.std.proofs.lemmas.Nat.{be_bytes_8}
use Rattle.std.proofs.lemmas.List.Elements.{All-nil}
use Rattle.fips_197.specs.Bytes.{AreBytes}
use Rattle.fips_197.proofs.Blocks.{AreBytes-at, AreBytes-cons}

pub to_be_bytes-halves : (n : ℕ) → to_be_bytes w64 (n / 2 ^ 64) ++ to_be_bytes w64 (n % 2 ^ 64) ≡ to_be_bytes w128 n
to_be_bytes-halves n =
    let b15 : n / 2 ^ 64 / 256 ^ 7 % 256 ≡ n / 256 ^ 15 % 256 = omega arith in
    let b14 : n / 2 ^ 64 / 256 ^ 6 % 256 ≡ n / 256 ^ 14 % 256 = omega arith in
    let b13 : n / 2 ^ 64 / 256 ^ 5 % 256 ≡ n / 256 ^ 13 % 256 = omega arith in
    let b12 : n / 2 ^ 64 / 256 ^ 4 % 256 ≡ n / 256 ^ 12 % 256 = omega arith in
    let b11 : n / 2 ^ 64 / 256 ^ 3 % 256 ≡ n / 256 ^ 11 % 256 = omega arith in
    let b10 : n / 2 ^ 64 / 256 ^ 2 % 256 ≡ n / 256 ^ 10 % 256 = omega arith in
    let b9 : n / 2 ^ 64 / 256 ^ 1 % 256 ≡ n / 256 ^ 9 % 256 = omega arith in
    let b8 : n / 2 ^ 64 % 256 ≡ n / 256 ^ 8 % 256 = omega arith in
    let b7 : n % 2 ^ 64 / 256 ^ 7 % 256 ≡ n / 256 ^ 7 % 256 = omega arith in
    let b6 : n % 2 ^ 64 / 256 ^ 6 % 256 ≡ n / 256 ^ 6 % 256 = omega arith in
    let b5 : n % 2 ^ 64 / 256 ^ 5 % 256 ≡ n / 256 ^ 5 % 256 = omega arith in
    let b4 : n % 2 ^ 64 / 256 ^ 4 % 256 ≡ n / 256 ^ 4 % 256 = omega arith in
    let b3 : n % 2 ^ 64 / 256 ^ 3 % 256 ≡ n / 256 ^ 3 % 256 = omega arith in
    let b2 : n % 2 ^ 64 / 256 ^ 2 % 256 ≡ n / 256 ^ 2 % 256 = omega arith in
    let b1 : n % 2 ^ 64 / 256 ^ 1 % 256 ≡ n / 256 ^ 1 % 256 = omega arith in
    let b0 : n % 2 ^ 64 % 256 ≡ n % 256 = omega arith in
    λ i. b15 i ∷ b14 i ∷ b13 i ∷ b12 i ∷ b11 i ∷ b10 i ∷ b9 i ∷ b8 i
    ∷ b7 i ∷ b6 i ∷ b5 i ∷ b4 i ∷ b3 i ∷ b2 i ∷ b1 i ∷ b0 i ∷ []

byte_at-below : (i n : ℕ) → byte_at i n < 256
byte_at-below zero n = omega arith
byte_at-below (suc i) n = mod-lt (n / 256 ^ suc i) (lit< tt)

AreBytes-bytes_low_first : (i k n : ℕ) → AreBytes (bytes_low_first i k n)
AreBytes-bytes_low_first i zero n = All-nil (λ b. b < 256)
AreBytes-bytes_low_first i (suc k) n =
    AreBytes-cons (byte_at i n) (bytes_low_first (suc i) k n) (byte_at-below i n) (AreBytes-bytes_low_first (suc i) k n)

-- the lowest byte of the one number is the highest of the other, and so on
pub to_le_bytes-swapped : (n : ℕ) → to_le_bytes w64 (swap_bytes w64 n) ≡ to_be_bytes w64 n
to_le_bytes-swapped n =
    ap reverse (be_bytes_8 (to_le_bytes w64 n) (swap_bytes w64 n) refl
    (AreBytes-at (to_le_bytes w64 n) (AreBytes-bytes_low_first 0 8 n)) refl)
