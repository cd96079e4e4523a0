use Rattle.std.proofs.Common.{rules}
use Rattle.std.proofs.Math.Facts.{to_z-of_z}
use mir.Val.{SFits}
use mir.Syntax.{w64}
use Rattle.sql_tables.proofs.renewals.write_one.Goals as goal

fits : (g : _) (c : goal.After-execute g) → SFits w64 c.args.renewal.now.id
fits g c = search rules

pub returns-clause-runs : goal.returns-clause-runs
returns-clause-runs g c = λ clean begun. rw c.as_slice.ensures.value at
    (rw (to_z-of_z (fits g c)) at (rw (c.params-to_sql.ensures, c.params-to_sql-2.ensures) at (c.execute.ensures.runs clean begun)))

pub returns-clause-survives : goal.returns-clause-survives
returns-clause-survives g c = c.execute.ensures.survives
