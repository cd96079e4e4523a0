use Rattle.sqlite.specs.Held.{state}
use Rattle.keep_sql.proofs.Outcomes.{not_taken, taken}
use Rattle.keep_sql.proofs.taking.take_over.Goals as goal

pub returns-in_err-found-clause-not_opened : goal.returns-in_err-found-clause-not_opened
returns-in_err-found-clause-not_opened g c = λ ready sees there.
    not_taken (state g.S.Store c.args.conn.now)
    (state g.S.Store c.read_store.new.conn) ready sees there c.read_store.ensures.same _ c.read_store.result
    c.from_residual.result _ c.in_err-found.was c.from_residual.ensures.1 c.read_store.ensures.undamaged

pub returns-clause-opened : goal.returns-clause-opened
returns-clause-opened g c = λ ready sees there.
    (taken (state g.S.Store c.args.conn.now)
    (state g.S.Store c.read_store.new.conn) ready sees there c.read_store.ensures.same c.in_ok-found.found
    c.in_ok-found.ensures.ok (state g.S.Store c.make_current.new.conn) c.make_current.ensures.clean
    c.make_current.result c.make_current.ensures.record c.make_current.ensures.made c.make_current.ensures.up
    c.make_current.ensures.same c.make_current.ensures.crash c.make_current.ensures.old c.make_current.ensures.undamaged).0

pub returns-clause-not_opened : goal.returns-clause-not_opened
returns-clause-not_opened g c = λ ready sees there.
    (taken (state g.S.Store c.args.conn.now)
    (state g.S.Store c.read_store.new.conn) ready sees there c.read_store.ensures.same c.in_ok-found.found
    c.in_ok-found.ensures.ok (state g.S.Store c.make_current.new.conn) c.make_current.ensures.clean
    c.make_current.result c.make_current.ensures.record c.make_current.ensures.made c.make_current.ensures.up
    c.make_current.ensures.same c.make_current.ensures.crash c.make_current.ensures.old c.make_current.ensures.undamaged).1
