-- The list of the token objects that the store has in memory: their ids, and what it knows of their marks.
use Rattle.std.specs.Prelude.{◌≡◌, ◌⊎◌, ◌==◌, ◌≤◌, ℕ, true, false, not, List, map, filter, All, Option, Some, None, if◌then◌else◌}
use Rattle.std.specs.List.{AllByRecursion}
use Rattle.ck_types.specs.declared.entry.Entry.{Entry}
use Rattle.find.specs.Marks.{ObjectMark, mark_of}
use Rattle.handles.specs.Live.{live}
use Rattle.keep.specs.Contents.{Contents, object_at}
use Rattle.lists.specs.Bisection.{KeysRise}
use Rattle.serve_base.specs.declared.listed.ObjectEntry.{ObjectEntry}

abbrev pub id_in : ObjectEntry → ℕ
id_in e = e.id

-- the ids of the objects, without those that were removed
abbrev pub listed_ids : List ObjectEntry → List ℕ
listed_ids listed = live (λ e. e.removed) id_in listed

-- the ids of all entries
abbrev pub all_ids : List ObjectEntry → List ℕ
all_ids listed = map id_in listed

-- the ids of all entries rise, and none is above the last that was given
pub record AreListed (last : ℕ) (listed : List ObjectEntry) : Type 0 where
  pub rise : KeysRise (λ i. i) (all_ids listed)
  pub within : AllByRecursion (λ i. i ≤ last) (all_ids listed)

-- an object that wasn't read yet
abbrev pub unread : ℕ → ObjectEntry
unread id = record { id = id; mark = None; removed = false }

-- the mark is noted, if it is that of this object
abbrev pub marked_at : ℕ → ObjectMark → ObjectEntry → ObjectEntry
marked_at id mark e = if e.id == id then record { id = e.id; mark = Some mark; removed = e.removed } else e

-- the object is removed, if it is this one
abbrev pub listed_removed_at : ℕ → ObjectEntry → ObjectEntry
listed_removed_at id e = if e.id == id then record { id = e.id; mark = e.mark; removed = true } else e

abbrev pub without_removed : List ObjectEntry → List ObjectEntry
without_removed listed = filter (λ e. not e.removed) listed

-- the entries stay, or those of removed objects are taken out
abbrev pub AreRemovedTaken : List ObjectEntry → List ObjectEntry → Type 0
AreRemovedTaken old new = (new ≡ old) ⊎ (new ≡ without_removed old)

-- a mark that is known is that of the object
abbrev pub IsMarkOf : Option (List Entry) → Option ObjectMark → Type 0
IsMarkOf (Some object) (Some mark) = mark ≡ mark_of object
IsMarkOf (Some object) None = Unit {0}
IsMarkOf None mark = Unit {0}

-- each mark that is known is that of the object under the id
abbrev pub AreMarks : Contents → List ObjectEntry → Type 0
AreMarks c listed = All (λ e. IsMarkOf (object_at c e.id) e.mark) listed
