use Rattle.std.proofs.Common.{arith}
use Rattle.sqlite.specs.Files.{file_state}
use Rattle.sqlite_store.specs.FileStore.{view}
use Rattle.sqlite_trees.specs.View.{IsClean}
use Rattle.sql_vacuum.proofs.Fills.{at_rows, version_of}
use Rattle.sql_vacuum.proofs.filling.filled.Goals as goal

pub returns-in-Ok-clause-ok : goal.returns-in-Ok-clause-ok
returns-in-Ok-clause-ok g c = λ sure clean b has.
    let last : IsClean (view c.fill.new.to) = omega (arith, c.in-Ok.ensures.clean) in
    let first : IsClean (view c.in_ok-to.to) = omega (arith, c.fill.ensures.clean) in
    at_rows (g.A.Store.view c.args.from.now) (view c.in_ok-to.to) (view c.fill.new.to) (file_state c.in-Ok.conn) b
    (c.in_ok-to.ensures first) c.args.version (c.in_default.ensures.ok clean last) (c.in-Ok.ensures.trees sure)
    (c.in-Ok.ensures.opens sure).0 (c.in-Ok.ensures.opens sure).1 has

pub returns-in-Ok-clause-version : goal.returns-in-Ok-clause-version
returns-in-Ok-clause-version g c = λ sure clean.
    let last : IsClean (view c.fill.new.to) = omega (arith, c.in-Ok.ensures.clean) in
    version_of (g.A.Store.view c.args.from.now) (view c.in_ok-to.to) (view c.fill.new.to) (file_state c.in-Ok.conn) c.args.version
    (c.in_default.ensures.ok clean last) (c.in-Ok.ensures.trees sure)
