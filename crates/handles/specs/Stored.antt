-- How `Handles` are stored.
use Rattle.std.specs.Prelude.{◌≡◌, ◌⊎◌, ℕ, List, filter, not}
use Rattle.handles.specs.declared.Handle.{Handle}
use Rattle.handles.specs.declared.Entry.{Entry}
use Rattle.handles.specs.Handles.{by_rising_id, IsHandleTable}
use Rattle.handles.specs.Live.{live}
use Rattle.lists.specs.Bisection.{KeysRise}
use Rattle.lists.specs.InOrder.{NumbersRise}

abbrev pub entry_number : Entry → ℕ
entry_number e = e.handle.handle

abbrev pub entry_id : Entry → ℕ
entry_id e = e.handle.id

-- the handles that aren't retired
abbrev pub handles_in : List Entry → List Handle
handles_in entries = live (λ e. e.retired) (λ e. e.handle) entries

abbrev pub without_retired : List Entry → List Entry
without_retired entries = filter (λ e. not e.retired) entries

-- the entries stay, or the retired ones are taken out
abbrev pub IsTaken : List Entry → List Entry → Type 0
IsTaken old new = (new ≡ old) ⊎ (new ≡ without_retired old)

-- A table is stored twice, with the same handles: by rising number, and by rising id. Retired entries stand among them.
pub record IsStored (next_number : ℕ) (entries by_id : List Entry) : Type 0 where
  pub table : IsHandleTable next_number (handles_in entries)
  pub numbers : NumbersRise entry_number 1 entries next_number
  pub ids : KeysRise entry_id by_id
  pub same : handles_in by_id ≡ by_rising_id (handles_in entries)
