use Rattle.sqlite_trees.specs.View.{IsClean, IsQuiet, OnlyWrites}
use Rattle.sql_vacuum.specs.Copies.{OnlyCursorsMove, PutsTrees}
use Rattle.sql_vacuum.proofs.copying.copy_trees.Given as goal

abbrev pub invariant-loop-tree : goal.invariant-loop-tree
invariant-loop-tree g l =
    let from = g.A.Store.view l.fn.from in
    let old = g.B.Store.view l.fn.to in
    (IsClean (g.A.Store.view l.from) → OnlyCursorsMove from (g.A.Store.view l.from))
    × (IsClean (g.A.Store.view l.from) → IsClean (g.B.Store.view l.to) → PutsTrees from old (g.B.Store.view l.to) l.tree)
    × IsQuiet g.A.Store.view g.A.Store.faults g.A.Store.recovers g.A.Store.is_shielded l.fn.from l.from
    × IsQuiet g.B.Store.view g.B.Store.faults g.B.Store.recovers g.B.Store.is_shielded l.fn.to l.to
    × (IsClean (g.B.Store.view l.to) → OnlyWrites old (g.B.Store.view l.to))
