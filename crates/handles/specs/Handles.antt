-- What a contract sees of `Handles`.
use Rattle.std.specs.Prelude.{◌≡◌, ℕ, ◌+◌, ◌≤◌, ◌==◌, Bool, false, not, is_some, List, [], ◌∷◌, ◌++◌, length, map, find, filter, Option, Some, if◌then◌else◌}
use Rattle.std.specs.Option.{option_map}
use Rattle.std.specs.List.{AllByRecursion}
use Rattle.handles.specs.declared.Handle.{Handle}
use Rattle.lists.specs.InOrder.{in_order, NumbersRise}

-- one application's handles in the order in which they were given, and the number of the next one; how many more
-- can be given with no allocation
pub record HandleTable : Type 0 where
  pub entries : List Handle
  pub next_number : ℕ
  pub capacity : ℕ

-- no handle was given yet
abbrev pub no_handles : HandleTable
no_handles = record { entries = []; next_number = 1; capacity = 0 }

-- the object of a handle, and the handle of an object
abbrev pub object_of : List Handle → ℕ → Option ℕ
object_of hs handle = option_map (λ h. h.id) (find (λ h. h.handle == handle) hs)

abbrev pub handle_number : List Handle → ℕ → Option ℕ
handle_number hs id = option_map (λ h. h.handle) (find (λ h. h.id == id) hs)

-- an object has a handle: the one that it had, or else the next
abbrev pub with_handle : HandleTable → ℕ → Bool → HandleTable
with_handle t id private =
    if is_some (handle_number t.entries id) then t
    else record t {
      entries = t.entries ++ record { handle = t.next_number; id = id; private = private } ∷ [];
      next_number = t.next_number + 1;
    }

-- the handles that are left when an object is gone, and when private objects are seen no more
abbrev pub handles_without : List Handle → ℕ → List Handle
handles_without hs id = filter (λ h. not (h.id == id)) hs

abbrev pub public_handles : List Handle → List Handle
public_handles hs = filter (λ h. not h.private) hs

-- so many more handles can be given with no allocation
abbrev pub HasRoomFor : HandleTable → ℕ → Type 0
HasRoomFor t more = length t.entries + more ≤ t.capacity

-- no object has two handles
abbrev pub AreDistinct : List Handle → Type 0
AreDistinct [] = Unit {0}
AreDistinct (h ∷ hs) = AllByRecursion (λ x. x.id == h.id ≡ false) hs × AreDistinct hs

-- what is true of every table: numbers count from 1 and were given once each, and each object has
-- one handle at most
pub record IsHandleTable (next_number : ℕ) (hs : List Handle) : Type 0 where
  pub rising : NumbersRise (λ h. h.handle) 1 hs next_number
  pub distinct : AreDistinct hs

-- these handles by rising id
abbrev pub by_rising_id : List Handle → List Handle
by_rising_id hs = in_order (λ h. h.id) (map Some hs)
