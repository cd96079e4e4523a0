-- What is read of a store before its bodies of format 1 are written again.
use Rattle.std.specs.Prelude.{◌≡◌, ◌⊎◌, ◌<◌, ℕ, pos, false, List, [], ◌∷◌, Contains, Option, Some, None, Bool, true}
use Rattle.std.specs.Prelude.{Vec}
use Rattle.std.specs.declared.alloc.Global.{Global}
use Rattle.sqlite_value.specs.declared.value.Value.TheVariants.{Int, Blob}
use Rattle.sqlite_value.specs.Order.{Row, column}
use Rattle.attrs.specs.Objects.{IsObject}
use Rattle.attrs.specs.OldStored.{has_new_flags}
use Rattle.keep.specs.Contents.{IsTokenObject}
use Rattle.pin_record.specs.Records.{TokenRecord}
use Rattle.pin_record.specs.Stored.{IsOldRecord, IsRecord}
use Rattle.keep_sql_model.specs.Store.{Body, encoded, encoded_record}
use Rattle.keep_sql_model.specs.Formats.{old_encoded, old_encoded_record}
use Rattle.keep_sql_model.specs.Rows.{ShowsObject}
use Rattle.sql_tables.specs.declared.renewals.Renewal.{Renewal}

-- the row has a body of format 1, and this is its id with the body in format 2
pub record Renews (row : Row) (e : Renewal) : Type 0 where
  pub id : ℕ
  pub object : Body
  pub id_is : column row 0 ≡ Int (pos id)
  pub above : 0 < id
  pub was : column row 1 ≡ Blob (old_encoded object)
  pub unflagged : has_new_flags object ≡ false
  pub is_object : IsObject object
  pub is_token : IsTokenObject object
  pub same_id : e.id ≡ pos id
  pub body_is : e.body.items ≡ encoded object

abbrev pub IsRenewedAs : List ℕ → List ℕ → Type 0
IsRenewedAs was bytes = (o : Body) × IsObject o × IsTokenObject o × (has_new_flags o ≡ false) × (was ≡ old_encoded o) × (bytes ≡ encoded o)

-- what a body is in format 2, where it has format 1
abbrev pub IsNewBody : Row → Option (Vec ℕ Global) → Type 0
IsNewBody row None = (o : Body) × (column row 1 ≡ Blob (encoded o)) × IsObject o × IsTokenObject o
IsNewBody row (Some bytes) = (was : List ℕ) × (column row 1 ≡ Blob was) × IsRenewedAs was bytes.items

-- a row of format 2 has none
abbrev pub RenewsIf : Row → Option Renewal → Type 0
RenewsIf row None = ShowsObject row
RenewsIf row (Some e) = Renews row e

-- each row has format 2, or its renewal is among these
abbrev pub IsCovered : List Renewal → Row → Type 0
IsCovered es row = ShowsObject row ⊎ ((e : Renewal) × Contains es e × Renews row e)

abbrev pub IsOfRow : List Row → Renewal → Type 0
IsOfRow rows e = (row : Row) × Contains rows row × Renews row e

-- the record, and whether its body has format 1
abbrev pub IsStoredAs : List ℕ → TokenRecord → Bool → Type 0
IsStoredAs bytes r false = (bytes ≡ encoded_record r) × IsRecord r
IsStoredAs bytes r true = (bytes ≡ old_encoded_record r) × IsOldRecord r

pub record FindsRecord (rows : List Row) (r : TokenRecord) (is_old : Bool) : Type 0 where
  pub row : Row
  pub bytes : List ℕ
  pub alone : rows ≡ row ∷ []
  pub body_is : column row 0 ≡ Blob bytes
  pub stored : IsStoredAs bytes r is_old
