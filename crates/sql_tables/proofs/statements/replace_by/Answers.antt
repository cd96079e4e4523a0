use Rattle.std.proofs.Math.Facts.{to_z_pos}
use mir.Syntax.{w64}
use Rattle.sql_tables.proofs.statements.replace_by.Goals as goal

pub returns-clause-runs : goal.returns-clause-runs
returns-clause-runs g c = λ clean. rw (to_z_pos w64 c.requires) at
    (rw (c.params-to_sql.ensures, c.params-to_sql-2.ensures) at (c.execute.ensures.runs clean))

pub returns-clause-survives : goal.returns-clause-survives
returns-clause-survives g c =
    rw (to_z_pos w64 c.requires) at (rw (c.params-to_sql.ensures, c.params-to_sql-2.ensures) at c.execute.ensures.survives)
