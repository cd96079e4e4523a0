use Rattle.std.proofs.Common.{◌≡◌, map, take}
use Rattle.keep_sql_model.specs.Rows.{first_number}
use Rattle.keep_sql.proofs.rows.ids_of.Given as goal

abbrev pub invariant-loop-row : goal.invariant-loop-row
invariant-loop-row l = l.ids.items ≡ map first_number (take l.row-index l.rows)
