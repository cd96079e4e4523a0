-- The authentication of a message in parts, as contracts see it (PKCS #11 v3.1, 5.13 and 5.15).
use Rattle.std.specs.Prelude.{ℕ, List, [], ◌++◌}
use Rattle.macs.specs.declared.mechanism.Mechanism.{Mechanism}

-- the mechanism, the key, and the message so far: all of it that was taken
pub record Authentication : Type 0 where
  pub mechanism : Mechanism
  pub key : List ℕ
  pub taken : List ℕ

abbrev pub mac_begun : Mechanism → List ℕ → Authentication
mac_begun mechanism key = record { mechanism = mechanism; key = key; taken = [] }

-- one more part
abbrev pub longer : Authentication → List ℕ → Authentication
longer a piece = record a { taken = a.taken ++ piece }
