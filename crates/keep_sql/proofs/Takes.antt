-- What the transaction that writes bodies again makes of a connection.
use Rattle.std.proofs.Common.{◌≡◌, ◌⊎◌, inl, inr, List, true, ℕ}
use Rattle.sqlite.specs.Tree.{Trees}
use Rattle.sqlite.specs.State.{State}
use Rattle.pin_record.specs.Stored.{IsRecord}
use Rattle.keep.specs.Contents.{Contents}
use Rattle.sql_statements.specs.Bodies.{Bodies}
use Rattle.sql_tables.specs.Renewed.{AreNatural, renewed}
use Rattle.sql_statements.specs.Rows.{ids_and_bodies}
use Rattle.sql_statements.specs.Store.{HasTables, IsAtRows}
use Rattle.keep_sql.specs.declared.taking.Found.{Found}
use Rattle.keep_sql_model.specs.Store.{IsAt, IsStore, encoded_record}
use Rattle.keep_sql_model.specs.Formats.{IsAtEither}
use Rattle.keep_sql.specs.Found.{TablesFind, is_current}
use Rattle.keep_sql.proofs.Taken.{are_natural, current, has_rows, rows, written}

module _ (old : State) (f : Found) (c : Contents) (at : IsAtEither old c) (found : TablesFind old.now.trees f) where
  abbrev pub old_rows : Bodies
  old_rows = rows old.now.trees c f at.stores found

  pub at_old_rows : IsAtRows old old_rows
  at_old_rows = record {
    schema = at.schema;
    settled = at.settled;
    autocommit = at.autocommit;
    stores = has_rows old.now.trees c f at.stores found;
    sound = at.sound;
  }

  pub natural_ids : AreNatural f.renewals.items
  natural_ids = are_natural f.renewals.items (ids_and_bodies (old.now.trees 1)) found.own

  module _ (fits : IsRecord f.token_record) (bytes : List ℕ) (is : bytes ≡ encoded_record f.token_record) where
    pub renewed_at : (new : State) → IsAtRows new (renewed f.renewals.items bytes old_rows) → IsAt new c
    renewed_at new made = record {
      schema = made.schema;
      settled = made.settled;
      autocommit = made.autocommit;
      stores = written old.now.trees c f at.stores found fits bytes is new.now.trees made.stores;
      sound = made.sound;
    }

    pub renewed_left : {P : Type 0} (left : Trees) → P ⊎ HasTables left (renewed f.renewals.items bytes old_rows) → P ⊎ IsStore left c
    renewed_left left (inl before) = inl before
    renewed_left left (inr whole) =
        inr (record { stores = written old.now.trees c f at.stores found fits bytes is left whole.rows; sound = whole.sound })

-- where each body has format 2 already
pub already : (s : State) (c : Contents) (f : Found) → IsAtEither s c → TablesFind s.now.trees f → is_current f ≡ true → IsAt s c
already s c f at found is = record {
  schema = at.schema;
  settled = at.settled;
  autocommit = at.autocommit;
  stores = current s.now.trees c f at.stores found is;
  sound = at.sound;
}
