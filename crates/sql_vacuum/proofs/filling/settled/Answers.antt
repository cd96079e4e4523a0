use Rattle.std.proofs.Common.{IsTrue, sym, ap, subst, ◌∙◌, arith}
use Rattle.sqlite_trees.specs.View.{IsClean, View}
use Rattle.sqlite.specs.Steps.{IsFresh}
use Rattle.sqlite_store.specs.FileStore.{view}
use Rattle.sql_vacuum.proofs.filling.settled.Goals as goal

pub returns-in-Ok-clause-clean : goal.returns-in-Ok-clause-clean
returns-in-Ok-clause-clean c = omega (arith, c.into_store-store.ensures.quiet.clean, c.checkpoint.ensures.quiet.clean)

pub returns-in-Ok-clause-fresh : goal.returns-in-Ok-clause-fresh
returns-in-Ok-clause-fresh c = λ none.
    let before = c.into_store-store.result in
    let q = c.checkpoint.ensures.quiet in
    let early : IsClean (view before) = omega (arith, q.clean) in
    let same = c.checkpoint.ensures.same (c.in-Ok.ensures.open none) in
    let up : IsTrue (view before).is_open = subst (λ (v : View). IsTrue v.is_open) same (c.in-Ok.ensures.open none) in
    let undone = c.into_store-store.ensures.undone in
    let kept = undone.kept early in
    let back = undone.undone up in
    subst IsFresh (sym same) (record {
      sound = back.1;
      numbered = c.into_store-store.ensures.numbered early;
      clean = back.0
          ∙ sym (kept.committed up);
      unmarked = kept.marks up;
    })

pub returns-in-Ok-clause-trees : goal.returns-in-Ok-clause-trees
returns-in-Ok-clause-trees c = λ none.
    let before = c.into_store-store.result in
    let same = c.checkpoint.ensures.same (c.in-Ok.ensures.open none) in
    let up : IsTrue (view before).is_open = subst (λ (v : View). IsTrue v.is_open) same (c.in-Ok.ensures.open none) in
    ap (λ (v : View). v.trees) same ∙ (c.into_store-store.ensures.undone.undone up).0
