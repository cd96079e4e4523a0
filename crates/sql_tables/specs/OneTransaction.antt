-- What is said of statements that are run in one transaction: all of them or none.
use Rattle.std.specs.Prelude.{◌≡◌, Bool, Result, true, false, IsTrue, IfOk, OnErr}
use Rattle.sqlite.specs.Store.{Ghosts}
use Rattle.sqlite.specs.Effect.{Database}
use Rattle.sqlite.specs.State.{HasCleanDisk, Survives}
use Rattle.sqlite.specs.Held.{Held, state}
use Rattle.sqlite.specs.declared.error.Error.{Error}

-- `Ran before db`: from the connection `before` the statements made `db`. The result is whether they were run at all
pub record IsOneTransaction {S : Type 0} (g : Ghosts S) (Ran : Held S → Database → Type 0) (old new : Held S)
    (result : Result Bool Error) : Type 0 where
  pub all : HasCleanDisk (state g new) → IfOk result (λ done. IsTrue done → Ran old (state g new).committed)
  pub settled : IfOk result (λ done. IsTrue done → IsTrue (state g new).is_open → (state g new).now ≡ (state g new).committed)
  pub up : HasCleanDisk (state g new) → IfOk result (λ done. IsTrue done → IsTrue (state g new).is_open)
  pub ended : IfOk result (λ done. IsTrue done → new.in_transaction ≡ false)
  pub refused : IfOk result (λ done. done ≡ false → new ≡ old)
  pub busy : IfOk result (λ done. done ≡ false → old.in_transaction ≡ true)
  pub stopped : OnErr result (new.in_transaction ≡ false)
  pub none : HasCleanDisk (state g new) → IsTrue (state g new).is_open
      → OnErr result (((state g new).now ≡ (state g old).now) × ((state g new).committed ≡ (state g old).committed))
  pub crash : Survives (state g old) (state g new) (λ trees. (db : Database) × Ran old db × (trees ≡ db.trees))
