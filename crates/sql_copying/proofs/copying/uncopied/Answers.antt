use Rattle.std.proofs.Common.{◌∙◌, ap, arith, subst, sym}
use Rattle.sqlite_trees.specs.View.{IsClean, View}
use Rattle.sqlite_store.specs.FileStore.{view}
use Rattle.sqlite.specs.Steps.{IsFresh}
use Rattle.sql_copying.proofs.copying.uncopied.Goals as goal

pub over-requires : goal.over-requires
over-requires g c = λ clean.
    let before : IsClean (view c.args.store) = omega (arith, c.is_open.ensures.quiet.clean, clean) in
    let fresh = c.requires before (c.is_open.ensures.open c.if-is_open.true clean) in
    subst IsFresh (sym (c.is_open.ensures.same c.if-is_open.true clean fresh.unmarked)) fresh

pub returns-in-Ok-clause-open : goal.returns-in-Ok-clause-open
returns-in-Ok-clause-open g c = λ clean. c.is_open.ensures.open c.if-is_open.true (omega (arith, c.in-Ok.ensures.clean, clean))

pub returns-in-Ok-clause-trees : goal.returns-in-Ok-clause-trees
returns-in-Ok-clause-trees g c = λ clean.
    let late : IsClean (view c.is_open.new.store) = omega (arith, c.in-Ok.ensures.clean, clean) in
    let before : IsClean (view c.args.store) = omega (arith, c.is_open.ensures.quiet.clean, late) in
    let fresh = c.requires before (c.is_open.ensures.open c.if-is_open.true late) in
    c.in-Ok.ensures.trees clean ∙ ap (λ (v : View). v.trees) (c.is_open.ensures.same c.if-is_open.true late fresh.unmarked)

pub returns-in-Err-clause-left : goal.returns-in-Err-clause-left
returns-in-Err-clause-left g c = λ trees may. c.is_open.ensures.quiet.outcomes trees (c.in-Err.ensures.unharmed.outcomes trees may)
