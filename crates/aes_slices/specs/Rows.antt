-- Blocks row after row: byte 4 r + c is that of row r and column c. Places of the 16 bytes of a state, from which its bytes are
-- taken.
use Rattle.std.specs.Prelude.{ℕ, List, [], ◌∷◌}
use Rattle.aes_vector.specs.Rows.{pick}

-- row after row, where they were column after column
abbrev pub row_by_row : List ℕ
row_by_row = 0 ∷ 4 ∷ 8 ∷ 12 ∷ 1 ∷ 5 ∷ 9 ∷ 13 ∷ 2 ∷ 6 ∷ 10 ∷ 14 ∷ 3 ∷ 7 ∷ 11 ∷ 15 ∷ []

-- ShiftRows (FIPS 197, 5.1.2), row after row
abbrev pub plane_rows_shifted : List ℕ
plane_rows_shifted = 0 ∷ 1 ∷ 2 ∷ 3 ∷ 5 ∷ 6 ∷ 7 ∷ 4 ∷ 10 ∷ 11 ∷ 8 ∷ 9 ∷ 15 ∷ 12 ∷ 13 ∷ 14 ∷ []

-- ShiftRows, and then column after column again
abbrev pub rows_shifted_last : List ℕ
rows_shifted_last = 0 ∷ 5 ∷ 10 ∷ 15 ∷ 1 ∷ 6 ∷ 11 ∷ 12 ∷ 2 ∷ 7 ∷ 8 ∷ 13 ∷ 3 ∷ 4 ∷ 9 ∷ 14 ∷ []

-- InvShiftRows (5.3.1), row after row
abbrev pub plane_rows_shifted_back : List ℕ
plane_rows_shifted_back = 0 ∷ 1 ∷ 2 ∷ 3 ∷ 7 ∷ 4 ∷ 5 ∷ 6 ∷ 10 ∷ 11 ∷ 8 ∷ 9 ∷ 13 ∷ 14 ∷ 15 ∷ 12 ∷ []

-- InvShiftRows, and then column after column again
abbrev pub rows_shifted_back_last : List ℕ
rows_shifted_back_last = 0 ∷ 7 ∷ 10 ∷ 13 ∷ 1 ∷ 4 ∷ 11 ∷ 14 ∷ 2 ∷ 5 ∷ 8 ∷ 15 ∷ 3 ∷ 6 ∷ 9 ∷ 12 ∷ []

-- each row in the place of the one before it, row after row
abbrev pub plane_rows_next : List ℕ
plane_rows_next = 4 ∷ 5 ∷ 6 ∷ 7 ∷ 8 ∷ 9 ∷ 10 ∷ 11 ∷ 12 ∷ 13 ∷ 14 ∷ 15 ∷ 0 ∷ 1 ∷ 2 ∷ 3 ∷ []

-- each row two places on, row after row
abbrev pub rows_after_next : List ℕ
rows_after_next = 8 ∷ 9 ∷ 10 ∷ 11 ∷ 12 ∷ 13 ∷ 14 ∷ 15 ∷ 0 ∷ 1 ∷ 2 ∷ 3 ∷ 4 ∷ 5 ∷ 6 ∷ 7 ∷ []

-- a block row after row
abbrev pub in_rows : List ℕ → List ℕ
in_rows x = pick row_by_row x
