-- A text in blocks of 16 bytes.
use Rattle.std.specs.Prelude.{◌≡◌, ℕ, zero, suc, ◌+◌, ◌/◌, ◌%◌, List, [], ◌++◌, length}

-- f 0, f 1, ..., f (n - 1), one after another
unfoldable pub first_blocks : (ℕ → List ℕ) → ℕ → List ℕ
first_blocks f zero = []
first_blocks f (suc n) = first_blocks f n ++ f n

-- a text of whole blocks
abbrev pub IsWhole : List ℕ → Type 0
IsWhole text = length text % 16 ≡ 0

-- how many blocks a text begins, of which the last may be shorter
abbrev pub blocks_begun : List ℕ → ℕ
blocks_begun text = (length text + 15) / 16
