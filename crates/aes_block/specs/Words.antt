-- Bytes in words of 32 bits, as the code keeps them: the first byte highest.
use Rattle.std.specs.Prelude.{ℕ, ◌/◌, ◌%◌, ◌^◌, List, [], ◌∷◌, ◌++◌}
use Rattle.aes_block.specs.declared.state.State.{State}

-- the four bytes of a word
unfoldable pub word_bytes : ℕ → List ℕ
word_bytes w = (w / 2 ^ 24 % 2 ^ 8) ∷ (w / 2 ^ 16 % 2 ^ 8) ∷ (w / 2 ^ 8 % 2 ^ 8) ∷ (w % 2 ^ 8) ∷ []

-- the bytes of words, one after another
unfoldable pub words_bytes : List ℕ → List ℕ
words_bytes [] = []
words_bytes (w ∷ ws) =
    (w / 2 ^ 24 % 2 ^ 8) ∷ (w / 2 ^ 16 % 2 ^ 8) ∷ (w / 2 ^ 8 % 2 ^ 8) ∷ (w % 2 ^ 8) ∷ words_bytes ws

-- the bytes of a state whose columns are words
unfoldable pub state_bytes : State → List ℕ
state_bytes s = word_bytes s.0 ++ (word_bytes s.1 ++ (word_bytes s.2 ++ word_bytes s.3))

-- byte 0 of a, byte 1 of b, byte 2 of c and byte 3 of d
unfoldable pub diagonal : ℕ → ℕ → ℕ → ℕ → List ℕ
diagonal a b c d =
    (a / 2 ^ 24 % 2 ^ 8) ∷ (b / 2 ^ 16 % 2 ^ 8) ∷ (c / 2 ^ 8 % 2 ^ 8) ∷ (d % 2 ^ 8) ∷ []
