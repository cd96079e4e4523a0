-- Two statements, and three, in one transaction, of which the last has a parameter.
use Rattle.std.specs.Prelude.{◌≡◌, ℕ, true, List, [], ◌∷◌, Ok}
use Rattle.sqlite_value.specs.declared.value.Value.TheVariants.{Blob}
use Rattle.sqlite.specs.Store.{Ghosts}
use Rattle.sqlite.specs.Effect.{Database}
use Rattle.sqlite.specs.State.{Executes}
use Rattle.sqlite.specs.Held.{Held, state}

pub record RanPair {S : Type 0} (g : Ghosts S) (first second bytes : List ℕ) (old : Held S) (db : Database) : Type 0 where
  pub mid : Held S
  pub last : Held S
  pub counts : ℕ × ℕ
  pub one : Executes first [] (state g (record old { in_transaction = true })) (state g mid) (Ok counts.0)
  pub two : Executes second (Blob bytes ∷ []) (state g mid) (state g last) (Ok counts.1)
  pub is : db ≡ (state g last).now

pub record RanThree {S : Type 0} (g : Ghosts S) (first second third bytes : List ℕ) (old : Held S) (db : Database) : Type 0 where
  pub half : Held S
  pub mid : Held S
  pub last : Held S
  pub counts : ℕ × ℕ × ℕ
  pub one : Executes first [] (state g (record old { in_transaction = true })) (state g half) (Ok counts.0)
  pub two : Executes second [] (state g half) (state g mid) (Ok counts.1)
  pub three : Executes third (Blob bytes ∷ []) (state g mid) (state g last) (Ok counts.2)
  pub is : db ≡ (state g last).now
