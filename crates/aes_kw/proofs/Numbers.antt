-- Numbers of 64 bits as bytes.
use Rattle.std.proofs.Common.{◌≡◌, ℕ, ◌/◌, ◌%◌, ◌^◌, List, [], ◌∷◌, length, bit_xor, ap, ◌∙◌}
use Rattle.std.specs.Int.{w64, from_be_bytes, to_be_bytes}
use Rattle.std.proofs.lemmas.Nat.{xor_shr, xor_mod, be_bytes_8}
use Rattle.fips_197.specs.Bytes.{AreBytes, xor_bytes}
use Rattle.fips_197.proofs.Blocks.{AreBytes-at}
use Rattle.fips_197.proofs.TextBlocks.{AreBytes-bytes_high_first}

pub AreBytes-to_be_bytes : (n : ℕ) → AreBytes (to_be_bytes w64 n)
AreBytes-to_be_bytes n = AreBytes-bytes_high_first 8 n

byte_of_xor : (a b k : ℕ) → bit_xor a b / 2 ^ k % 2 ^ 8 ≡ bit_xor (a / 2 ^ k % 2 ^ 8) (b / 2 ^ k % 2 ^ 8)
byte_of_xor a b k = ap (λ n. n % 2 ^ 8) (xor_shr a b k) ∙ xor_mod (a / 2 ^ k) (b / 2 ^ k) 8

pub to_be_bytes-xor : (a b : ℕ) → to_be_bytes w64 (bit_xor a b) ≡ xor_bytes (to_be_bytes w64 a) (to_be_bytes w64 b)
unfolding xor_bytes
to_be_bytes-xor a b = λ t.
    byte_of_xor a b 56 t ∷ byte_of_xor a b 48 t ∷ byte_of_xor a b 40 t ∷ byte_of_xor a b 32 t
    ∷ byte_of_xor a b 24 t ∷ byte_of_xor a b 16 t ∷ byte_of_xor a b 8 t ∷ xor_mod a b 8 t ∷ []

-- a number added to eight bytes
pub number-added : (check : List ℕ) (c t : ℕ) → length check ≡ 8 → AreBytes check → c ≡ from_be_bytes w64 check
    → to_be_bytes w64 (bit_xor c t) ≡ xor_bytes check (to_be_bytes w64 t)
number-added check c t size bytes is =
    to_be_bytes-xor c t
    ∙ ap (λ l. xor_bytes l (to_be_bytes w64 t)) (be_bytes_8 check c size (AreBytes-at check bytes) is)
