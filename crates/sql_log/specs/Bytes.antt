-- What two texts begin with.
use Rattle.std.specs.Prelude.{◌≡◌, ℕ, ◌<◌, ◌≤◌, min, List, length, slice_index}

-- both have so many bytes at least, and begin with the same ones
pub record IsAlike (n : ℕ) (a b : List ℕ) : Type 0 where
  pub first : n ≤ length a
  pub second : n ≤ length b
  pub each : (i : ℕ) → i < n → slice_index a i ≡ slice_index b i

-- the second begins with so many bytes of the first, as far as that has them
pub record BeginsAs (n : ℕ) (a b : List ℕ) : Type 0 where
  pub long : min n (length a) ≤ length b
  pub each : (i : ℕ) → i < n → i < length a → slice_index b i ≡ slice_index a i

-- Each outcome of a crash begins as an old one did, as far as the file began like these bytes.
abbrev pub KeepsBeginning : List ℕ → List ℕ → (List ℕ → Type 0) → (List ℕ → Type 0) → Type 0
KeepsBeginning file bytes old new = (c : List ℕ) → new c → (d : List ℕ) × old d × ((n : ℕ) → IsAlike n file bytes → BeginsAs n d c)
