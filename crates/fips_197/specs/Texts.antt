-- A text in blocks of 16 bytes.
use Rattle.std.specs.Prelude.{ℕ, ◌*◌, List, take, drop}

-- block i of a text, counted from 0; it is shorter than 16 bytes where the text ends in it
unfoldable pub block_of : List ℕ → ℕ → List ℕ
block_of text i = take 16 (drop (16 * i) text)
