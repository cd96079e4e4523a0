-- What the three texts of whole tables show.
use Rattle.std.proofs.Common.{◌≡◌, pos, List, [], ◌∷◌, map, Ok, Err, Result, IfOk, OnOk, IsTrue, refl, subst, arith}
use Rattle.std.specs.List.Sorted.{IsPermutation}
use Rattle.sql_statements.specs.declared.sql.TheConstants.{READ_IDS, READ_OBJECTS, READ_RECORD}
use Rattle.sqlite_value.specs.declared.value.Value.TheVariants.{Null, Int}
use Rattle.sqlite_value.specs.Order.{Row}
use Rattle.sqlite_tied.specs.Compute.{everything}
use Rattle.sqlite.specs.Command.{Command}
use Rattle.sqlite.specs.Effect.{Database, Reads}
use Rattle.sqlite.specs.Listing.{understood}
use Rattle.sqlite.specs.State.{State, HasCleanDisk}
use Rattle.sql_statements.specs.Bodies.{Bodies, row_ids}
use Rattle.sql_statements.specs.Store.{HoldsRows, IsAtRows, OnlyReads, IsQuery, command}
use Rattle.sql_statements.specs.Rows.{bodies, ids_and_bodies}
use Rattle.sql_statements.proofs.Texts.{ids_read_is, objects_read_is, record_read_is}
use Rattle.sql_statements.proofs.Listed.{ids_shown, object_rows, record_rows}

pub ids_is_query : IsQuery READ_IDS.now
unfolding understood everything
ids_is_query = ((refl, refl), refl)

-- where the connection is open now, it was at the bodies
pub was_at : (old new : State) (c : Bodies) → HoldsRows old c → OnlyReads old new → HasCleanDisk new → IsTrue new.is_open → IsAtRows old c
was_at old new c h reads clean up = h (let old_clean : HasCleanDisk old = omega (arith, reads.clean) in old_clean) (reads.was_open clean up)

pub ids_found : {V E : Type 0} (old new : State) (c : Bodies) → HoldsRows old c → (IsQuery READ_IDS.now → OnlyReads old new)
    → (items : V → List Row) (r : Result V E)
    → IfOk r (λ rows. Reads (command READ_IDS.now) old.now [] (items rows)) → OnOk r (IsTrue new.is_open) → HasCleanDisk new
    → IfOk r (λ rows. items rows ≡ map (λ id. Int (pos id) ∷ []) (row_ids c))
ids_found old new c h reads items (Err e) shown up clean = tt
ids_found old new c h reads items (Ok rows) shown up clean =
    let at = was_at old new c h (reads ids_is_query) clean up in
    let it = subst (λ (k : Command). Reads k old.now [] (items rows)) ids_read_is shown in
    ids_shown old.now.trees c (items rows) at.stores (it.answer Null)

-- ---- whole tables, in any order

pub record_is_query : IsQuery READ_RECORD.now
unfolding understood everything
record_is_query = ((refl, refl), refl)

pub objects_is_query : IsQuery READ_OBJECTS.now
unfolding understood everything
objects_is_query = ((refl, refl), refl)

pub record_listed : {V E : Type 0} (db : Database) (items : V → List Row) (r : Result V E)
    → IfOk r (λ rows. Reads (command READ_RECORD.now) db [] (items rows))
    → IfOk r (λ rows. IsPermutation (bodies (db.trees 0)) (items rows))
record_listed db items (Err e) reads = tt
record_listed db items (Ok rows) reads =
    let it = subst (λ (k : Command). Reads k db [] (items rows)) record_read_is reads in
    record_rows db.trees (items rows) (it.answer Null)

pub objects_listed : {V E : Type 0} (db : Database) (items : V → List Row) (r : Result V E)
    → IfOk r (λ rows. Reads (command READ_OBJECTS.now) db [] (items rows))
    → IfOk r (λ rows. IsPermutation (ids_and_bodies (db.trees 1)) (items rows))
objects_listed db items (Err e) reads = tt
objects_listed db items (Ok rows) reads =
    let it = subst (λ (k : Command). Reads k db [] (items rows)) objects_read_is reads in
    object_rows db.trees (items rows) (it.answer Null)
