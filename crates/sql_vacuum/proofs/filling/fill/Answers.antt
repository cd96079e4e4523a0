use Rattle.std.proofs.Common.{arith}
use Rattle.sql_vacuum.proofs.Fills.{fill_ok}
use Rattle.sql_vacuum.proofs.filling.fill.Goals as goal

pub returns-clause-ok : goal.returns-clause-ok
returns-clause-ok g c =
    fill_ok c.commit.result _ _ _ (g.A.Store.view c.args.from.now) (g.B.Store.view c.args.to.now)
    (g.B.Store.view c.copy_trees.new.to) (g.B.Store.view c.set_version.new.self) (g.B.Store.view c.commit.new.self) c.args.version
    (λ clean. omega (arith, c.commit.ensures.clean, c.set_version.ensures.quiet.clean)) c.in_ok-copy_trees.ensures.ok
    (λ clean. c.in_ok-set_version.ensures.ok (omega (arith, c.commit.ensures.clean))) c.commit.ensures.ok
