use Rattle.std.proofs.Common.{◌∙◌, sym}
use Rattle.sqlite.specs.Held.{state}
use Rattle.keep_sql.proofs.Outcomes.{made}
use Rattle.keep_sql.proofs.opening.open_ready.Goals as goal

pub returns-then-has_tables-clause-opened : goal.returns-then-has_tables-clause-opened
returns-then-has_tables-clause-opened g c =
    λ ready sees. c.take_over.ensures.opened ready sees (sym c.has_tables.ensures ∙ c.if-has_tables.true)

pub returns-then-has_tables-clause-not_opened : goal.returns-then-has_tables-clause-not_opened
returns-then-has_tables-clause-not_opened g c =
    λ ready sees. c.take_over.ensures.not_opened ready sees (sym c.has_tables.ensures ∙ c.if-has_tables.true)

pub returns-else-has_tables-clause-opened : goal.returns-else-has_tables-clause-opened
returns-else-has_tables-clause-opened g c = λ ready sees.
    (made (state g.S.Store c.args.conn.now) (state g.S.Store c.make_new.new.conn) ready sees
    (sym c.has_tables.ensures ∙ c.if-has_tables.false) c.make_new.ensures.clean c.make_new.result c.make_new.ensures.made
    c.make_new.ensures.same c.make_new.ensures.crash c.make_new.ensures.undamaged).0

pub returns-else-has_tables-clause-not_opened : goal.returns-else-has_tables-clause-not_opened
returns-else-has_tables-clause-not_opened g c = λ ready sees.
    (made (state g.S.Store c.args.conn.now) (state g.S.Store c.make_new.new.conn) ready sees
    (sym c.has_tables.ensures ∙ c.if-has_tables.false) c.make_new.ensures.clean c.make_new.result c.make_new.ensures.made
    c.make_new.ensures.same c.make_new.ensures.crash c.make_new.ensures.undamaged).1
