-- What a transaction that is made whole or not at all makes of a connection.
use Rattle.std.proofs.Common.{◌≡◌, ◌⊎◌, ◌≤◌, inl, inr, Bool, false, Ok, Err, Result, IfOk, OnErr, IsTrue, sym, ap, subst, ◌∙◌, arith}
use Rattle.sqlite.specs.Tree.{Trees}
use Rattle.sqlite.specs.Effect.{Database, IsDatabase}
use Rattle.sqlite.specs.Store.{Ghosts}
use Rattle.sqlite.specs.State.{State, HasCleanDisk, Survives}
use Rattle.sqlite.specs.Held.{Held, state}
use Rattle.sqlite_trees.specs.View.{doubt}
use Rattle.sqlite.specs.declared.error.Error.{Error}
use Rattle.sql_statements.specs.Tables.{token_schema}
use Rattle.sql_statements.specs.Bodies.{Bodies}
use Rattle.sql_statements.proofs.Lift.{tables_in}
use Rattle.sql_statements.specs.Store.{HasRows, HasTables, IsAtRows, IsReady, Sees, ShowsNow}

module _ {S : Type 0} (g : Ghosts S) (old new : Held S) (Ran : Database → Type 0) (b : Bodies)
    (is : (db : Database) → Ran db → (db.schema ≡ token_schema) × HasRows db.trees b × IsDatabase db) where
  whole_at : Ran (state g new).committed → (state g new).now ≡ (state g new).committed → new.in_transaction ≡ false
      → IsAtRows (state g new) b
  whole_at ran now ended =
      let made = is (state g new).committed ran in
      record {
        schema = ap (λ (d : Database). d.schema) now ∙ made.0;
        settled = sym now;
        autocommit = ended;
        stores = subst (λ (d : Database). HasRows d.trees b) (sym now) made.1;
        sound = subst (λ (d : Database). IsDatabase d) (sym now) made.2;
      }

  pub whole_if : (result : Result Bool Error) → IfOk result (λ done. IsTrue done → Ran (state g new).committed)
      → IfOk result (λ done. IsTrue done → IsTrue (state g new).is_open → (state g new).now ≡ (state g new).committed)
      → IfOk result (λ done. IsTrue done → IsTrue (state g new).is_open)
      → IfOk result (λ done. IsTrue done → new.in_transaction ≡ false)
      → IfOk result (λ done. IsTrue done → IsTrue (state g new).is_open × IsAtRows (state g new) b)
  whole_if (Ok done) all settled up ended = λ yes. (up yes, whole_at (all yes) (settled yes (up yes)) (ended yes))
  whole_if (Err e) all settled up ended = tt

  pub whole_left : Survives (state g old) (state g new) (λ trees. (db : Database) × Ran db × (trees ≡ db.trees))
      → HasCleanDisk (state g new) → (left : Trees) → (state g new).may_leave left → (state g old).may_leave left ⊎ HasTables left b
  whole_left lasts clean left may = elim (lasts.crash clean left may) [
    | inl before ↦ inl before
    | inr ran ↦ let it = is ran.0 ran.1 in inr (subst (λ (t : Trees). HasTables t b) (sym ran.2) (tables_in ran.0 b it.0 it.1 it.2))
  ]

-- where the transaction failed, the connection sees what it saw
pub stopped_shows : (old new : State) (db : Database) → IsReady old → Sees old db → doubt old.is_clean ≤ doubt new.is_clean
    → HasCleanDisk new → (result : Result Bool Error)
    → OnErr result ((new.now ≡ old.now) × (new.committed ≡ old.committed)) → OnErr result (new.in_transaction ≡ false)
    → OnErr result (ShowsNow new db)
stopped_shows old new db ready sees clean_on clean (Ok done) both stopped = tt
stopped_shows old new db ready sees clean_on clean (Err e) both stopped =
    let old_clean : HasCleanDisk old = omega (arith, clean_on) in
    let at = sees old_clean (ready old_clean) in
    record { now = both.0 ∙ at.now; settled = both.1 ∙ at.settled; autocommit = stopped }

-- and where it wasn't begun
pub refused_shows : {S : Type 0} (g : Ghosts S) (old new : Held S) (db : Database) → IsReady (state g old) → Sees (state g old) db
    → HasCleanDisk (state g new) → (result : Result Bool Error)
    → IfOk result (λ done. done ≡ false → new ≡ old) → IfOk result (λ done. done ≡ false → ShowsNow (state g new) db)
refused_shows g old new db ready sees clean (Err e) same = tt
refused_shows g old new db ready sees clean (Ok done) same = λ no.
    let old_clean : HasCleanDisk (state g old) = subst (λ (h : Held _). HasCleanDisk (state g h)) (same no) clean in
    subst (λ (h : Held _). ShowsNow (state g h) db) (sym (same no)) (sees old_clean (ready old_clean))
