-- Places of the 16 bytes of a state, from which its bytes are taken.
use Rattle.std.specs.Prelude.{ℕ, List, [], ◌∷◌, map, slice_index}

-- the bytes where they are
abbrev pub bytes_in_place : List ℕ
bytes_in_place = 0 ∷ 1 ∷ 2 ∷ 3 ∷ 4 ∷ 5 ∷ 6 ∷ 7 ∷ 8 ∷ 9 ∷ 10 ∷ 11 ∷ 12 ∷ 13 ∷ 14 ∷ 15 ∷ []

-- ShiftRows (FIPS 197, 5.1.2): where each byte comes from
abbrev pub rows_shifted : List ℕ
rows_shifted = 0 ∷ 5 ∷ 10 ∷ 15 ∷ 4 ∷ 9 ∷ 14 ∷ 3 ∷ 8 ∷ 13 ∷ 2 ∷ 7 ∷ 12 ∷ 1 ∷ 6 ∷ 11 ∷ []

-- ShiftRows, and then each row in the place of the one before it
abbrev pub rows_shifted_next : List ℕ
rows_shifted_next = 5 ∷ 10 ∷ 15 ∷ 0 ∷ 9 ∷ 14 ∷ 3 ∷ 4 ∷ 13 ∷ 2 ∷ 7 ∷ 8 ∷ 1 ∷ 6 ∷ 11 ∷ 12 ∷ []

-- ShiftRows, and then each row in the place of the one after it
abbrev pub rows_shifted_before : List ℕ
rows_shifted_before = 15 ∷ 0 ∷ 5 ∷ 10 ∷ 3 ∷ 4 ∷ 9 ∷ 14 ∷ 7 ∷ 8 ∷ 13 ∷ 2 ∷ 11 ∷ 12 ∷ 1 ∷ 6 ∷ []

-- InvShiftRows (5.3.1)
abbrev pub rows_shifted_back : List ℕ
rows_shifted_back = 0 ∷ 13 ∷ 10 ∷ 7 ∷ 4 ∷ 1 ∷ 14 ∷ 11 ∷ 8 ∷ 5 ∷ 2 ∷ 15 ∷ 12 ∷ 9 ∷ 6 ∷ 3 ∷ []

-- each row in the place of the one before it
abbrev pub rows_next : List ℕ
rows_next = 1 ∷ 2 ∷ 3 ∷ 0 ∷ 5 ∷ 6 ∷ 7 ∷ 4 ∷ 9 ∷ 10 ∷ 11 ∷ 8 ∷ 13 ∷ 14 ∷ 15 ∷ 12 ∷ []

-- the bytes at these places
abbrev pub pick : List ℕ → List ℕ → List ℕ
pick places s = map (λ k. slice_index s k) places
