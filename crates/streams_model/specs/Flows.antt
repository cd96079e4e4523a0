-- A text in parts under a mode of blocks.
use Rattle.std.specs.Prelude.{ℕ, ◌-◌, ◌/◌, List, [], ◌++◌, length}

-- its initialization vector, if the mode has one, and key; how many bytes at least stay buffered until the final part; the
-- data taken and the output so far
pub record Flow : Type 0 where
  pub iv : List ℕ
  pub key : List ℕ
  pub held : ℕ
  pub taken : List ℕ
  pub given : List ℕ

abbrev pub begun : List ℕ → List ℕ → ℕ → Flow
begun iv key held = record { iv = iv; key = key; held = held; taken = []; given = [] }

-- one more part
abbrev pub further : Flow → List ℕ → List ℕ → Flow
further f piece out = record f { taken = f.taken ++ piece; given = f.given ++ out }

-- how many blocks are worked on where so many bytes at least stay buffered
abbrev pub blocks_done : ℕ → List ℕ → ℕ
blocks_done held taken = (length taken - held) / 16
