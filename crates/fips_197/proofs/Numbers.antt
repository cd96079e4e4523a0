-- The bytes of a number of 128 bits, and those of its four words.
use Rattle.std.proofs.Common.{◌≡◌, ℕ, ◌+◌, ◌/◌, ◌%◌, ◌^◌, ◌<◌, List, [], ◌∷◌, ◌++◌, get_or, bit_xor, refl, sym, ◌∙◌, arith}
use Rattle.std.specs.Int.{w32, w128, from_be_bytes, to_be_bytes}
use Rattle.std.proofs.lemmas.Nat.{xor_shr, xor_mod, be_bytes_4}
use Rattle.fips_197.specs.Bytes.{AreBytes, IsBlock, xor_bytes}
use Rattle.fips_197.proofs.Blocks.{AreBytes-at, AreBytes-four, by_bytes}

-- ---- the words of a number

pub to_be_bytes-words : (n a b c d : ℕ) → a ≡ n / 2 ^ 96 % 2 ^ 32 → b ≡ n / 2 ^ 64 % 2 ^ 32 → c ≡ n / 2 ^ 32 % 2 ^ 32 → d ≡ n % 2 ^ 32
    → to_be_bytes w32 a ++ (to_be_bytes w32 b ++ (to_be_bytes w32 c ++ to_be_bytes w32 d)) ≡ to_be_bytes w128 n
to_be_bytes-words n a b c d ea eb ec ed =
    let a0 : a / 2 ^ 24 % 2 ^ 8 ≡ n / 256 ^ 15 % 256 = omega (arith, ea) in
    let a1 : a / 2 ^ 16 % 2 ^ 8 ≡ n / 256 ^ 14 % 256 = omega (arith, ea) in
    let a2 : a / 2 ^ 8 % 2 ^ 8 ≡ n / 256 ^ 13 % 256 = omega (arith, ea) in
    let a3 : a % 2 ^ 8 ≡ n / 256 ^ 12 % 256 = omega (arith, ea) in
    let b0 : b / 2 ^ 24 % 2 ^ 8 ≡ n / 256 ^ 11 % 256 = omega (arith, eb) in
    let b1 : b / 2 ^ 16 % 2 ^ 8 ≡ n / 256 ^ 10 % 256 = omega (arith, eb) in
    let b2 : b / 2 ^ 8 % 2 ^ 8 ≡ n / 256 ^ 9 % 256 = omega (arith, eb) in
    let b3 : b % 2 ^ 8 ≡ n / 256 ^ 8 % 256 = omega (arith, eb) in
    let c0 : c / 2 ^ 24 % 2 ^ 8 ≡ n / 256 ^ 7 % 256 = omega (arith, ec) in
    let c1 : c / 2 ^ 16 % 2 ^ 8 ≡ n / 256 ^ 6 % 256 = omega (arith, ec) in
    let c2 : c / 2 ^ 8 % 2 ^ 8 ≡ n / 256 ^ 5 % 256 = omega (arith, ec) in
    let c3 : c % 2 ^ 8 ≡ n / 256 ^ 4 % 256 = omega (arith, ec) in
    let d0 : d / 2 ^ 24 % 2 ^ 8 ≡ n / 256 ^ 3 % 256 = omega (arith, ed) in
    let d1 : d / 2 ^ 16 % 2 ^ 8 ≡ n / 256 ^ 2 % 256 = omega (arith, ed) in
    let d2 : d / 2 ^ 8 % 2 ^ 8 ≡ n / 256 ^ 1 % 256 = omega (arith, ed) in
    let d3 : d % 2 ^ 8 ≡ n % 256 = omega (arith, ed) in
    λ i. a0 i ∷ a1 i ∷ a2 i ∷ a3 i ∷ b0 i ∷ b1 i ∷ b2 i ∷ b3 i ∷ c0 i ∷ c1 i ∷ c2 i ∷ c3 i ∷ d0 i ∷ d1 i ∷ d2 i ∷ d3 i ∷ []

-- ---- the exclusive or

byte-xor : (k x y : ℕ) → bit_xor x y / 2 ^ k % 2 ^ 8 ≡ bit_xor (x / 2 ^ k % 2 ^ 8) (y / 2 ^ k % 2 ^ 8)
byte-xor k x y = simp (xor_shr, xor_mod)

-- the bytes of the exclusive or of two numbers
pub to_be_bytes-xor : (x y : ℕ) → to_be_bytes w128 (bit_xor x y) ≡ xor_bytes (to_be_bytes w128 x) (to_be_bytes w128 y)
unfolding xor_bytes
to_be_bytes-xor x y = λ i.
    byte-xor 120 x y i ∷ byte-xor 112 x y i ∷ byte-xor 104 x y i ∷ byte-xor 96 x y i
    ∷ byte-xor 88 x y i ∷ byte-xor 80 x y i ∷ byte-xor 72 x y i ∷ byte-xor 64 x y i
    ∷ byte-xor 56 x y i ∷ byte-xor 48 x y i ∷ byte-xor 40 x y i ∷ byte-xor 32 x y i
    ∷ byte-xor 24 x y i ∷ byte-xor 16 x y i ∷ byte-xor 8 x y i ∷ xor_mod x y 8 i ∷ []

-- ---- a block as a number

-- four bytes of a list, as a word
abbrev four_at : List ℕ → ℕ → List ℕ
four_at s i = get_or s i 0 ∷ get_or s (i + 1) 0 ∷ get_or s (i + 2) 0 ∷ get_or s (i + 3) 0 ∷ []

to_be_bytes-four : (s : List ℕ) (i : ℕ) → AreBytes s → to_be_bytes w32 (from_be_bytes w32 (four_at s i)) ≡ four_at s i
to_be_bytes-four s i bytes =
    be_bytes_4 (four_at s i) _ refl
    (AreBytes-at (four_at s i) (AreBytes-four (get_or s i 0) (get_or s (i + 1) 0) (get_or s (i + 2) 0) (get_or s (i + 3) 0)
    (AreBytes-at s bytes i) (AreBytes-at s bytes (i + 1)) (AreBytes-at s bytes (i + 2)) (AreBytes-at s bytes (i + 3)))) refl

-- the bytes of the number that a block is
pub to_be_bytes-block : (s : List ℕ) → IsBlock s → to_be_bytes w128 (from_be_bytes w128 s) ≡ s
to_be_bytes-block s block =
    let at : (i : ℕ) → get_or s i 0 < 256 = AreBytes-at s block.bytes in
    let last : from_be_bytes w32 (four_at s 12) < 2 ^ 32 = omega (arith, at 12, at 13, at 14, at 15) in
    let third : from_be_bytes w32 (four_at s 8) < 2 ^ 32 = omega (arith, at 8, at 9, at 10, at 11) in
    let second : from_be_bytes w32 (four_at s 4) < 2 ^ 32 = omega (arith, at 4, at 5, at 6, at 7) in
    let first : from_be_bytes w32 (four_at s 0) < 2 ^ 32 = omega (arith, at 0, at 1, at 2, at 3) in
    sym (to_be_bytes-words (from_be_bytes w128 s) (from_be_bytes w32 (four_at s 0)) (from_be_bytes w32 (four_at s 4))
    (from_be_bytes w32 (four_at s 8)) (from_be_bytes w32 (four_at s 12))
    (omega (arith, first, second, third, last)) (omega (arith, second, third, last)) (omega (arith, third, last)) (omega (arith, last)))
    ∙ (λ i. to_be_bytes-four s 0 block.bytes i ++ (to_be_bytes-four s 4 block.bytes i
    ++ (to_be_bytes-four s 8 block.bytes i ++ to_be_bytes-four s 12 block.bytes i)))
    ∙ sym (by_bytes s block.size)
