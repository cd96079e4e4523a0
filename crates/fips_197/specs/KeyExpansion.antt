-- The key expansion (FIPS 197, 5.2). A key and a key schedule are lists of bytes, four to a word.
use Rattle.std.specs.Prelude.{◌≡◌, ℕ, zero, suc, ◌+◌, ◌-◌, ◌*◌, ◌/◌, ◌%◌, ◌⊎◌, ◌&&◌, ◌==◌, nat_lt, if◌then◌else◌, List, [], ◌∷◌, ◌++◌, length, take, drop, slice_index}
use Rattle.fips_197.specs.Bytes.{AreBytes, xor_bytes}
use Rattle.fips_197.specs.Field.{product}
use Rattle.fips_197.specs.Cipher.{substitute_bytes}

-- a key has 16, 24 or 32 bytes (5)
abbrev pub IsKeyLength : ℕ → Type 0
IsKeyLength n = (n ≡ 16) ⊎ ((n ≡ 24) ⊎ (n ≡ 32))

-- the bytes of a key
pub record IsKey (key : List ℕ) : Type 0 where
  pub size : IsKeyLength (length key)
  pub bytes : AreBytes key

-- Nk, the number of words of a key: 4, 6 or 8 (5, figure 4)
unfoldable pub word_count : List ℕ → ℕ
word_count key = length key / 4

-- Nr, the number of rounds: 10, 12 or 14 (5, figure 4)
unfoldable pub round_count : List ℕ → ℕ
round_count key = word_count key + 6

-- word i of a sequence of words
unfoldable pub word : List ℕ → ℕ → List ℕ
word w i = take 4 (drop (4 * i) w)

-- RotWord: the word a0, a1, a2, a3 becomes a1, a2, a3, a0
unfoldable pub rotate_word : List ℕ → List ℕ
rotate_word w = slice_index w 1 ∷ slice_index w 2 ∷ slice_index w 3 ∷ slice_index w 0 ∷ []

-- x^n in the field, where x is {02}
unfoldable pub power_of_x : ℕ → ℕ
power_of_x zero = 1
power_of_x (suc n) = product 0x02 (power_of_x n)

-- Rcon[i]: the word x^(i-1), 0, 0, 0
unfoldable pub round_constant : ℕ → List ℕ
round_constant i = power_of_x (i - 1) ∷ 0 ∷ 0 ∷ 0 ∷ []

-- what is added to word i - nk to make word i, from the word before it (figure 11); SubWord is the
-- S-box at each byte of a word
unfoldable pub expansion_term : ℕ → ℕ → List ℕ → List ℕ
expansion_term nk i before =
    if i % nk == 0 then xor_bytes (substitute_bytes (rotate_word before)) (round_constant (i / nk))
    else (if nat_lt 6 nk && (i % nk == 4) then substitute_bytes before else before)

-- the words 0 to nk + n - 1 that a key of nk words is expanded to
unfoldable pub expanded_words : List ℕ → ℕ → ℕ → List ℕ
expanded_words key nk zero = key
expanded_words key nk (suc n) =
    let w = expanded_words key nk n in
    w ++ xor_bytes (word w n) (expansion_term nk (nk + n) (word w (nk + n - 1)))

-- KeyExpansion (5.2, figure 11): the key schedule, of 4 (Nr + 1) words
unfoldable pub key_expansion : List ℕ → List ℕ
key_expansion key = expanded_words key (word_count key) (4 * (round_count key + 1) - word_count key)
