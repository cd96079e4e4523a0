-- A connection.
use Rattle.std.specs.Prelude.{ℕ, List, ◌++◌, Option}
use Rattle.rand_chacha.specs.ChaCha.{ChaCha}
use Rattle.line.specs.declared.ending.Ending.{Ending}

-- The bytes that were read and not consumed, and the words from the next on. Then all bytes that were ever read, all that the
-- writer ever took, those that it is to take yet, how many payloads were answered, and why the connection ended.
pub record Connected : Type 0 where
  pub held : List ℕ
  pub words : ChaCha
  pub read : List ℕ
  pub written : List ℕ
  pub pending : List ℕ
  pub answered : ℕ
  pub ended : Option Ending

-- what was written, and what is to be
abbrev pub output : Connected → List ℕ
output c = c.written ++ c.pending

-- what goes out: the bytes that a writer took, and those that it is to take
pub record Outgoing : Type 0 where
  pub written : List ℕ
  pub pending : List ℕ
