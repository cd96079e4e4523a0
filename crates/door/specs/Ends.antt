-- What contracts know of the ends of a connection: the bytes that a reader gave, and those that a writer took.
use Rattle.std.specs.Prelude.{◌≡◌, ◌⊎◌, ℕ, ◌<◌, List, [], ◌++◌, length, take, Option, Result, MatchResult}
use Rattle.std.specs.Io.KnownBytes.{Appends, Consumes, IsAtEnd}

-- a reader: the application that it is of, all that it gave, and what it has left, where that is known
pub record Reading : Type 0 where
  pub app : ℕ
  pub gave : List ℕ
  pub left : Option (List ℕ)

-- a writer: the application that it is of, all that it took, and what it holds, where that is known
pub record Writing : Type 0 where
  pub app : ℕ
  pub took : List ℕ
  pub holds : Option (List ℕ)

-- it gave these bytes, and stays of its application
pub record GaveBytes (old new : Reading) (bytes : List ℕ) : Type 0 where
  pub app : new.app ≡ old.app
  pub gave : new.gave ≡ old.gave ++ bytes
  pub left : Consumes old.left new.left bytes

-- it took these bytes, and stays of its application
pub record TookBytes (old new : Writing) (bytes : List ℕ) : Type 0 where
  pub app : new.app ≡ old.app
  pub took : new.took ≡ old.took ++ bytes
  pub holds : Appends old.holds new.holds bytes

-- a read gave the first bytes of the buffer, none only at the end or with no room; one that failed gave none
abbrev pub ReadGives : {E : Type 0} → Reading → Reading → Result ℕ E → List ℕ → Type 0
ReadGives old new r buf = MatchResult r (λ n. GaveBytes old new (take n buf) × (n ≡ 0 → 0 < length buf → IsAtEnd new.left))
    (λ _. GaveBytes old new [])

-- a write took the first of the bytes; one that failed took none
abbrev pub WriteTakes : {E : Type 0} → Writing → Writing → Result ℕ E → List ℕ → Type 0
WriteTakes old new r bytes = MatchResult r (λ n. TookBytes old new (take n bytes)) (λ _. TookBytes old new [])

-- nothing, or bytes that the reader of this application has given, at some moment
abbrev pub HasGiven : (ℕ → List ℕ → Type 0) → ℕ → List ℕ → Type 0
HasGiven given app bytes = (bytes ≡ []) ⊎ given app bytes
