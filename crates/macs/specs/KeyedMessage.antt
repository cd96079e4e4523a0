-- A message under a key.
use Rattle.std.specs.Prelude.{ℕ, List, [], ◌++◌}

-- the key, and all of the message that was taken
pub record KeyedMessage : Type 0 where
  pub key : List ℕ
  pub taken : List ℕ

abbrev pub empty_message : List ℕ → KeyedMessage
empty_message key = record { key = key; taken = [] }

-- one more part
abbrev pub longer_message : KeyedMessage → List ℕ → KeyedMessage
longer_message m piece = record m { taken = m.taken ++ piece }
