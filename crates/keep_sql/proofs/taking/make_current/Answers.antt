use Rattle.std.proofs.Common.{sym, ◌∙◌}
use Rattle.sqlite.specs.Held.{state}
use Rattle.keep_sql.proofs.Takes.{already}
use Rattle.keep_sql.proofs.taking.make_current.Goals as goal

pub returns-then-is_current-clause-made : goal.returns-then-is_current-clause-made
returns-then-is_current-clause-made g c =
    λ d ready at found clean. (
      ready clean,
      already (state g.S.Store c.args.conn.now) d c.args.found.now at found (sym c.is_current.ensures ∙ c.if-is_current.true),
    )
