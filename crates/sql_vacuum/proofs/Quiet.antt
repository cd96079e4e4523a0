-- Two calls of a store that change nothing.
use Rattle.std.proofs.Common.{◌⊎◌, IsTrue, inl, inr, arith}
use Rattle.sqlite_disk.specs.declared.Disk.{Ghosts}
use Rattle.sqlite_disk.specs.Disk.{MoreFaults}
use Rattle.sqlite_trees.specs.View.{IsQuiet}
use Rattle.sqlite_store.specs.FileStore.{faults, is_shielded, recovers, view}
use Rattle.sqlite.specs.declared.FileStore.{FileStore}

module _ {D : Type 0} {g : Ghosts D} (old mid new : FileStore D g) where
  -- two calls that only read
  pub quiet_twice : IsQuiet view faults recovers is_shielded old mid → IsQuiet view faults recovers is_shielded mid new
      → IsQuiet view faults recovers is_shielded old new
  quiet_twice one two = record {
    shield = λ s. two.shield (one.shield s);
    clean = omega (arith, one.clean, two.clean);
    counts = omega (arith, one.counts, two.counts);
    closes = λ clean up. closes (one.closes (omega (arith, two.clean, clean)) up) (two.closes clean);
    outcomes = λ db may. one.outcomes db (two.outcomes db may);
  } where
    closes : (IsTrue (view mid).is_open ⊎ MoreFaults (faults old) (faults mid))
        → (IsTrue (view mid).is_open → IsTrue (view new).is_open ⊎ MoreFaults (faults mid) (faults new)) → IsTrue (view new).is_open
        ⊎ MoreFaults (faults old) (faults new)
    closes (inr fault) then = inr (omega (arith, fault, two.counts))
    closes (inl still) then = elim (then still) [ inl is ↦ inl is | inr fault ↦ inr (omega (arith, fault, one.counts)) ]
