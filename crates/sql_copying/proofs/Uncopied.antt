-- Why a log can't be copied.
use Rattle.std.proofs.Common.{◌≡◌, ◌⊎◌, ◌≤◌, ◌-◌, ◌++◌, ◌∷◌, [], List, length, take, false, IsTrue, inl, inr, arith, refl, subst, sym}
use Rattle.std.proofs.lemmas.Bool.{cases_Bool, both_ways}
use Rattle.sqlite_disk.specs.declared.Disk.{Ghosts}
use Rattle.sqlite_disk.specs.Disk.{MoreFaults}
use Rattle.sqlite_trees.specs.declared.error.StoreError.{StoreError}
use Rattle.sqlite_trees.specs.declared.error.StoreError.TheVariants.{OutOfMemory, Io, Corrupt, Full, Broken, Unstorable}
use Rattle.sqlite_trees.specs.Tree.{Trees}
use Rattle.sqlite_trees.specs.View.{HasCause, Snapshot, View, snapshot}
use Rattle.sqlite_rules.specs.Calls.{Excuses}
use Rattle.sqlite_catalog.specs.Listing.{IsSound}
use Rattle.sqlite_schema.specs.declared.schema.Schema.{Schema}
use Rattle.sqlite_store.specs.FileStore.{faults, view}
use Rattle.sqlite.specs.declared.FileStore.{FileStore}
use Rattle.sqlite.specs.declared.error.Error.{Error}
use Rattle.sqlite.specs.State.{store_error}
use Rattle.sqlite.specs.Steps.{FailsToOpen}
use Rattle.sqlite.specs.Held.{Held}
use Rattle.sqlite.specs.Files.{ExcusesClose}

module _ {D : Type 0} {g : Ghosts D} (c : Held (FileStore D g)) (before last : FileStore D g) where
  -- the copying failed
  pub excused : (e : StoreError) → faults c.store ≤ faults before → faults before ≤ faults last
      → (IsTrue (view c.store).is_open → IsTrue (view before).is_open ⊎ MoreFaults (faults c.store) (faults before))
      → (IsTrue (view before).is_open → (view before).is_broken ≡ false)
      → HasCause (view before) (MoreFaults (faults before) (faults last)) ⊥ e → ExcusesClose c last e
  excused OutOfMemory up more closes mended h = tt
  excused Io up more closes mended h = omega arith
  excused Corrupt up more closes mended h = omega arith
  excused Full up more closes mended h = omega arith
  excused Unstorable up more closes mended h = h
  excused Broken up more closes mended h = elim (cases_Bool (view c.store).is_open) [
    | inl was ↦ elim (closes was) [ inl still ↦ absurd (both_ways _ (mended still) h) | inr fault ↦ inr (omega arith) ]
    | inr shut ↦ inl shut
  ]

  -- the store was copied, and could not be looked through
  pub excused_again : (e : Error) (trees : Trees) → faults c.store ≤ faults before → faults before ≤ faults last
      → ((schema : Schema) × IsSound schema trees) → FailsToOpen trees (MoreFaults (faults before) (faults last)) e
      → (cause : StoreError) × (e ≡ store_error cause) × ExcusesClose c last cause
  excused_again e trees up more sound fails = elim fails [
    | inl none ↦ absurd (none.1 sound.0 sound.1)
    | inr some ↦ (some.0, some.1, by_cause some.0 some.2)
  ]
    where
      by_cause : (cause : StoreError) → Excuses (MoreFaults (faults before) (faults last)) ⊥ cause → ExcusesClose c last cause
      by_cause OutOfMemory h = tt
      by_cause Io h = omega (arith, h)
      by_cause Corrupt h = omega (arith, h)
      by_cause Full h = omega (arith, h)
      by_cause Broken h = absurd h
      by_cause Unstorable h = h

-- a store that shuts has met a fault
pub shuts : {D : Type 0} {g : Ghosts D} (c : Held (FileStore D g)) (back before : FileStore D g) → faults back ≤ faults before
    → (IsTrue (view c.store).is_open → IsTrue (view back).is_open ⊎ MoreFaults (faults c.store) (faults back))
    → (IsTrue (view back).is_open → IsTrue (view before).is_open ⊎ MoreFaults (faults back) (faults before))
    → faults c.store ≤ faults back → IsTrue (view c.store).is_open → IsTrue (view before).is_open
    ⊎ MoreFaults (faults c.store) (faults before)
shuts c back before more first second up on = elim (first on) [
  | inr fault ↦ inr (omega (arith, fault, more))
  | inl still ↦ elim (second still) [ inl is ↦ inl is | inr fault ↦ inr (omega (arith, fault, up)) ]
]

-- a store whose newest mark was dropped
abbrev pub released : View → View
released v = record v { marks = take (length v.marks - 1) v.marks }

-- a mark that was the only one, and went, leaves what was
pub unmarked : (v : View) → v.marks ≡ [] → released (record v { marks = v.marks ++ snapshot v ∷ [] }) ≡ v
unmarked v none = subst (λ (m : List Snapshot). released (record v { marks = m ++ snapshot v ∷ [] }) ≡ record v { marks = m })
    (sym none) refl
