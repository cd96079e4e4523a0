-- What a row of a query's result contains.
use Rattle.std.specs.Prelude.{◌≡◌, ℕ, pos, ◌<◌, List, [], ◌∷◌}
use Rattle.sqlite_value.specs.declared.value.Value.TheVariants.{Int, Blob}
use Rattle.sqlite_value.specs.Order.{Row, column}
use Rattle.sqlite.specs.Edit.{id_in}
use Rattle.attrs.specs.Objects.{IsObject}
use Rattle.pin_record.specs.Records.{TokenRecord}
use Rattle.keep.specs.Contents.{IsTokenObject}
use Rattle.keep_sql_model.specs.Store.{Body, encoded}
use Rattle.sql_statements.specs.Rows.{natural}
use Rattle.keep_sql_model.specs.Formats.{IsBody, IsRecordBody}

-- the number in the first column
abbrev pub first_number : Row → ℕ
first_number row = natural (id_in (column row 0))

-- the id and the body of a token object
pub record ShowsObject (row : Row) : Type 0 where
  pub id : ℕ
  pub object : Body
  pub id_is : column row 0 ≡ Int (pos id)
  pub above : 0 < id
  pub body_is : column row 1 ≡ Blob (encoded object)
  pub is_object : IsObject object
  pub is_token : IsTokenObject object

-- the same in either format
pub record ShowsEither (row : Row) : Type 0 where
  pub id : ℕ
  pub object : Body
  pub bytes : List ℕ
  pub id_is : column row 0 ≡ Int (pos id)
  pub above : 0 < id
  pub body_is : column row 1 ≡ Blob bytes
  pub is_body : IsBody bytes object
  pub is_object : IsObject object
  pub is_token : IsTokenObject object

-- one row alone, which is the body of the record in either format
pub record ShowRecordEither (rows : List Row) (r : TokenRecord) : Type 0 where
  pub row : Row
  pub bytes : List ℕ
  pub alone : rows ≡ row ∷ []
  pub body_is : column row 0 ≡ Blob bytes
  pub is_body : IsRecordBody bytes r
