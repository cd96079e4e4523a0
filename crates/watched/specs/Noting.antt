-- What a reader or a writer that counts its failures has counted. The kinds of errors are std's.
use Rattle.std.specs.Prelude.{◌≡◌, ◌⊎◌, ℕ, ◌+◌, ◌-◌, ◌^◌, ◌<◌, ◌≤◌, List, [], ◌++◌, length, take, Result, Ok, Err}
use Rattle.std.specs.declared.io.Error.{Error}
use Rattle.std.specs.declared.io.ErrorKind.TheVariants.{Interrupted}
use Rattle.std.specs.IoError.{error_kind}
use Rattle.keep.specs.Keeping.{Rises}

-- What it is made of, how many of its calls failed, how many were made, and which bytes were written since the last flush.
pub record Noting (T : Type 0) : Type 0 where
  pub inner : T
  pub failures : ℕ
  pub calls : ℕ
  pub unflushed : List ℕ

-- a call with this error may be made again
abbrev pub IsInterruption : Error → Type 0
IsInterruption error = error_kind error ≡ Interrupted

-- ---- one call

-- a call that didn't fail
pub record Passes {T : Type 0} (old new : Noting T) : Type 0 where
  pub calls : new.calls ≡ old.calls + 1
  pub failures : new.failures ≡ old.failures

-- a call that failed
pub record Slips {T : Type 0} (old new : Noting T) : Type 0 where
  pub calls : new.calls ≡ old.calls + 1
  pub failures : Rises old.failures new.failures

-- a read or a flush fails with an error that is no interruption
abbrev pub Notes : {T X : Type 0} → Noting T → Noting T → Result X Error → Type 0
Notes old new (Ok x) = Passes old new
Notes old new (Err e) = (IsInterruption e → Passes old new) × ((¬ IsInterruption e) → Slips old new)

-- a write fails also where it takes nothing of bytes that are there
abbrev pub NotesWrite : {T : Type 0} → Noting T → Noting T → List ℕ → Result ℕ Error → Type 0
NotesWrite old new bytes (Ok n) = (0 < n → Passes old new) × (length bytes ≡ 0 → Passes old new)
    × (n ≡ 0 → 0 < length bytes → Slips old new)
NotesWrite old new bytes (Err e) = (IsInterruption e → Passes old new) × ((¬ IsInterruption e) → Slips old new)

-- what a write took waits to be flushed
abbrev pub HoldsBack : {T : Type 0} → Noting T → Noting T → List ℕ → Result ℕ Error → Type 0
HoldsBack old new bytes (Ok n) = new.unflushed ≡ old.unflushed ++ take n bytes
HoldsBack old new bytes (Err e) = new.unflushed ≡ old.unflushed

-- a flush lets it out
abbrev pub LetsOut : {T X : Type 0} → Noting T → Noting T → Result X Error → Type 0
LetsOut old new (Ok done) = new.unflushed ≡ []
LetsOut old new (Err e) = new.unflushed ≡ old.unflushed

-- ---- calls in turn

-- none failed
pub record Unfailing {T : Type 0} (old new : Noting T) : Type 0 where
  pub calls : old.calls ≤ new.calls
  pub failures : new.failures ≡ old.failures

-- None failed, and where nothing waited to be flushed before, nothing does.
pub record Settles {T : Type 0} (old new : Noting T) : Type 0 where
  pub calls : old.calls ≤ new.calls
  pub failures : new.failures ≡ old.failures
  pub flushed : old.unflushed ≡ [] → new.unflushed ≡ []

-- one failed, or as many were made as a line makes at most
abbrev pub HasFailed : {T : Type 0} → Noting T → Noting T → Type 0
HasFailed old new = Rises old.failures new.failures ⊎ (old.calls + (2 ^ 64 - 1) ≤ new.calls)
