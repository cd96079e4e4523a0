-- A text that is encrypted or decrypted in parts, as contracts see it (SP 800-38A, 6; PKCS #11 v3.1,
-- 5.8 and 5.10).
use Rattle.std.specs.Prelude.{ℕ, List, [], ◌++◌}
pub use Rattle.aes_modes.specs.declared.direction.Direction.{Direction}
use Rattle.streams.specs.declared.mechanism.Mechanism.{Mechanism}

-- the mechanism with its parameter, the direction, the key, all data that was taken and the output for it
pub record Streamed : Type 0 where
  pub mechanism : Mechanism
  pub direction : Direction
  pub key : List ℕ
  pub taken : List ℕ
  pub given : List ℕ

abbrev pub started_stream : Mechanism → Direction → List ℕ → Streamed
started_stream mechanism direction key = record { mechanism = mechanism; direction = direction; key = key; taken = []; given = [] }

-- one more part, for which `out` was output
abbrev pub after_piece : Streamed → List ℕ → List ℕ → Streamed
after_piece s piece out = record s { taken = s.taken ++ piece; given = s.given ++ out }
