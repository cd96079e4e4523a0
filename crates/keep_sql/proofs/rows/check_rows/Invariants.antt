use Rattle.std.proofs.Common.{All, take}
use Rattle.keep_sql_model.specs.Renewals.{IsCovered, IsOfRow}
use Rattle.keep_sql.proofs.rows.check_rows.Given as goal

abbrev pub invariant-loop-row : goal.invariant-loop-row
invariant-loop-row l = All (IsCovered l.renewals.items) (take l.row-index l.rows) × All (IsOfRow l.rows) l.renewals.items
