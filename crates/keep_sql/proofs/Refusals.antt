-- What a refused opening of files leaves.
use Rattle.std.proofs.Common.{◌≡◌, ◌⊎◌, inl, inr, Result, Ok, Err, IfOk, IfErr, subst, sym, refl, Bool, true, false, ◌&&◌, IsTrue}
use Rattle.sqlite_disk.specs.declared.Disk.{Ghosts}
use Rattle.sqlite_disk.specs.declared.Files.{Files}
use Rattle.sqlite.specs.declared.FileStore.{FileStore}
use Rattle.sqlite.specs.State.{HasCleanDisk}
use Rattle.sqlite.specs.Held.{Held}
use Rattle.sqlite.specs.Files.{file_state, image_of, IsOpened}
use Rattle.sqlite.specs.Start.{FindsIn}
use Rattle.keep_sql.specs.Refusal.{Leaves, LeavesConnection}
use Rattle.keep_sql.specs.declared.refusal.OpenFault.{OpenFault}
use Rattle.keep_sql.specs.declared.refusal.Left.{Left}
use Rattle.keep_sql.specs.declared.refusal.Left.TheVariants as left

pub both_clean : (a b : Bool) → IsTrue (a && b) → IsTrue a × IsTrue b
both_clean true true it = (refl, refl)
both_clean true false it = absurd (cc)
both_clean false b it = absurd (cc)

pub left_by : {D : Type 0} {g : Ghosts D} (files : Files D) (was : Held (FileStore D g)) (fault : OpenFault) (rest : Left D g)
    → (HasCleanDisk (file_state was) → IsOpened was) → (HasCleanDisk (file_state was) → FindsIn (image_of g files) (file_state was))
    → LeavesConnection was fault rest → Leaves files fault rest
left_by files was fault left.Nothing is_open finds it = absurd it
left_by files was fault (left.Files now) is_open finds it = absurd it
left_by files was fault (left.Sqlite rest) is_open finds it = absurd it
left_by files was fault (left.Connection conn) is_open finds it = record { was = was; is_open = is_open; finds = finds; leaves = inr it }
left_by files was fault (left.Store store) is_open finds it = record { was = was; is_open = is_open; finds = finds; leaves = inr it }
