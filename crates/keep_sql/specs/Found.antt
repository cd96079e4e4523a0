-- What was read of a whole store.
use Rattle.std.specs.Prelude.{◌&&◌, not, Bool, true, false, List, [], ◌∷◌, All}
use Rattle.sqlite.specs.Tree.{Trees}
use Rattle.sql_tables.specs.declared.renewals.Renewal.{Renewal}
use Rattle.keep_sql.specs.declared.taking.Found.{Found}
use Rattle.keep_sql_model.specs.Renewals.{FindsRecord, IsCovered, IsOfRow}
use Rattle.sql_statements.specs.Rows.{bodies, ids_and_bodies}

pub record TablesFind (trees : Trees) (f : Found) : Type 0 where
  pub record_is : FindsRecord (bodies (trees 0)) f.token_record f.is_old
  pub covered : All (IsCovered f.renewals.items) (ids_and_bodies (trees 1))
  pub own : All (IsOfRow (ids_and_bodies (trees 1))) f.renewals.items

abbrev pub has_none : List Renewal → Bool
has_none [] = true
has_none (e ∷ es) = false

-- each body has format 2
abbrev pub is_current : Found → Bool
is_current f = not f.is_old && has_none f.renewals.items
