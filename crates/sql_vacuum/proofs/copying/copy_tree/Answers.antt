use Rattle.std.proofs.Common.{◌∙◌}
use Rattle.sql_vacuum.proofs.Puts.{puts_of}
use Rattle.sql_vacuum.proofs.copying.copy_tree.Goals as goal

pub returns-clause-ok : goal.returns-clause-ok
returns-clause-ok g c = puts_of c.put_each.result (g.B.Store.view c.args.to.now)
    (g.B.Store.view c.put_each.new.store) c.args.tree c.as_slice.result.now _ _ _
    (λ clean. c.as_slice.ensures.value ∙ c.in_ok-rows.ensures.rows clean) c.put_each.ensures.ok
