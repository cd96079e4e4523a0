use Rattle.std.proofs.Common.{IsTrue, ◌∙◌, ap, arith, subst}
use Rattle.sqlite_trees.specs.View.{IsClean, View}
use Rattle.sqlite_store.specs.FileStore.{view}
use Rattle.sql_vacuum.proofs.Quiet.{quiet_twice}
use Rattle.sql_vacuum.proofs.log_copying.emptied.Goals as goal

pub returns-in-Ok-clause-committed : goal.returns-in-Ok-clause-committed
returns-in-Ok-clause-committed g c = λ none.
    let same = c.checkpoint.ensures.same (c.in-Ok.ensures.open none) in
    let up : IsTrue (view c.rollback.new.self).is_open = subst (λ (v : View). IsTrue v.is_open) same (c.in-Ok.ensures.open none) in
    ap (λ (v : View). v.trees) same ∙ (c.rollback.ensures.undone.undone up).0

pub returns-in-Ok-clause-quiet : goal.returns-in-Ok-clause-quiet
returns-in-Ok-clause-quiet g c =
    quiet_twice c.args.store.now c.rollback.new.self c.checkpoint.new.self c.rollback.ensures.quiet c.checkpoint.ensures.quiet

pub returns-in-Err-clause-quiet : goal.returns-in-Err-clause-quiet
returns-in-Err-clause-quiet g c =
    quiet_twice c.args.store.now c.rollback.new.self c.checkpoint.new.self c.rollback.ensures.quiet c.checkpoint.ensures.quiet
