-- The statements that write objects again, and then the record, in one transaction.
use Rattle.std.specs.Prelude.{◌≡◌, ℕ, true, List, [], ◌∷◌, Ok}
use Rattle.sql_statements.specs.declared.sql.TheConstants.{REPLACE_OBJECT, SET_RECORD}
use Rattle.sqlite_value.specs.declared.value.Value.TheVariants.{Blob, Int}
use Rattle.sqlite.specs.Store.{Ghosts}
use Rattle.sqlite.specs.Effect.{Database}
use Rattle.sqlite.specs.State.{Executes}
use Rattle.sqlite.specs.Held.{Held, state}
use Rattle.sql_tables.specs.declared.renewals.Renewal.{Renewal}

-- one for each object, in turn
abbrev pub RanEach : {S : Type 0} → Ghosts S → List Renewal → Held S → Held S → Type 0
RanEach g [] old new = old ≡ new
RanEach {S} g (e ∷ es) old new =
    (mid : Held S) × ((count : ℕ)
    × Executes REPLACE_OBJECT.now (Int e.id ∷ Blob e.body.items ∷ []) (state g old) (state g mid) (Ok count)) × RanEach g es mid new

pub record RanRenewals {S : Type 0} (g : Ghosts S) (renewals : List Renewal) (bytes : List ℕ) (old : Held S) (db : Database) : Type 0 where
  pub mid : Held S
  pub last : Held S
  pub count : ℕ
  pub each : RanEach g renewals (record old { in_transaction = true }) mid
  pub one : Executes SET_RECORD.now (Blob bytes ∷ []) (state g mid) (state g last) (Ok count)
  pub is : db ≡ (state g last).now
