-- The state (FIPS 197, 3.4 and 3.5): 16 bytes in four rows and four columns, in the order of the
-- input and the output, column after column. The byte of row r and column c is byte r + 4 c.
use Rattle.std.specs.Prelude.{ℕ, ◌+◌, ◌*◌, List, [], ◌∷◌, ◌++◌, slice_index}

-- the byte of row r and column c
unfoldable pub byte_at : List ℕ → ℕ → ℕ → ℕ
byte_at s r c = slice_index s (r + 4 * c)

-- the state whose byte of row r and column c is f r c
unfoldable pub state : (ℕ → ℕ → ℕ) → List ℕ
state f =
    f 0 0 ∷ f 1 0 ∷ f 2 0 ∷ f 3 0 ∷
    f 0 1 ∷ f 1 1 ∷ f 2 1 ∷ f 3 1 ∷
    f 0 2 ∷ f 1 2 ∷ f 2 2 ∷ f 3 2 ∷
    f 0 3 ∷ f 1 3 ∷ f 2 3 ∷ f 3 3 ∷ []

-- column c, from its row 0 down
unfoldable pub column : List ℕ → ℕ → List ℕ
column s c = byte_at s 0 c ∷ byte_at s 1 c ∷ byte_at s 2 c ∷ byte_at s 3 c ∷ []

-- the state whose column c is f c
unfoldable pub columns : (ℕ → List ℕ) → List ℕ
columns f = f 0 ++ (f 1 ++ (f 2 ++ f 3))
