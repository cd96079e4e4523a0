use Rattle.std.proofs.Common.{◌≡◌, ◌++◌, IsSome}
use Rattle.sqlite_exec.specs.Loops.{left_of}
use Rattle.sqlite_trees.specs.View.{IsClean, IsQuiet}
use Rattle.sql_vacuum.specs.Copies.{OnlyCursorsMove}
use Rattle.sql_vacuum.proofs.copying.rows_of.Given as goal

abbrev pub invariant-rows : goal.invariant-rows
invariant-rows g l =
    let old = g.S.Store.view l.fn.store in
    let now = g.S.Store.view l.store in
    IsSome (now.cursors 0) × (IsClean now → OnlyCursorsMove old now)
    × IsQuiet g.S.Store.view g.S.Store.faults g.S.Store.recovers g.S.Store.is_shielded l.fn.store l.store
    × (IsClean now → l.rows.items ++ left_of now 0 ≡ old.trees l.tree)
