-- Bytes as numbers below 256, and sequences of them as lists (FIPS 197, 3.2 and 3.3).
use Rattle.std.specs.Prelude.{◌≡◌, ℕ, ◌<◌, List, [], ◌∷◌, All, length, bit_xor}

-- each element is a byte
abbrev pub AreBytes : List ℕ → Type 0
AreBytes s = All (λ b. b < 256) s

-- 16 bytes: the input and the output of the cipher, and its state (3.1, 3.4)
pub record IsBlock (s : List ℕ) : Type 0 where
  pub size : length s ≡ 16
  pub bytes : AreBytes s

-- the exclusive or of two sequences, byte by byte, as far as both go: the sum in the field (4.1)
unfoldable pub xor_bytes : List ℕ → List ℕ → List ℕ
xor_bytes [] ys = []
xor_bytes (x ∷ xs) [] = []
xor_bytes (x ∷ xs) (y ∷ ys) = bit_xor x y ∷ xor_bytes xs ys
