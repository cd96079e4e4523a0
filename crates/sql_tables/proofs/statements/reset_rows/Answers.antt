use Rattle.std.proofs.Common.{◌≡◌, false, OnErr, IfOk, IsTrue}
use Rattle.sqlite.specs.Held.{state}
use Rattle.sql_statements.specs.Bodies.{bodies_after_reset}
use Rattle.sql_statements.specs.Store.{RowsChanged, RowsFailed}
use Rattle.sql_statements.proofs.Pairs.{pair_ends}
use Rattle.sql_statements.proofs.Lift.{not_sent_if}
use Rattle.sql_tables.proofs.statements.reset_rows.Goals as goal

all : (g : _) (c : goal.After-run_all g)
    → IfOk c.run_all.result (λ done. IsTrue done
    → RowsChanged (state g.S.Store c.args.conn.now) (state g.S.Store c.run_all.new.conn) (bodies_after_reset c.args.bytes.now))
    × IfOk c.run_all.result (λ done. done ≡ false
    → RowsFailed (state g.S.Store c.args.conn.now) (state g.S.Store c.run_all.new.conn) (bodies_after_reset c.args.bytes.now))
    × OnErr c.run_all.result (RowsFailed (state g.S.Store c.args.conn.now) (state g.S.Store c.run_all.new.conn)
    (bodies_after_reset c.args.bytes.now))
all g c =
    pair_ends g.S.Store (state g.S.Store c.args.conn.now) c.ensure_open.new.conn c.run_all.new.conn c.args.bytes.now
    c.ensure_open.ensures.kept c.in_ok-ensure_open.ensures.open c.run_all.ensures.crash
    c.run_all.result c.run_all.ensures.all c.run_all.ensures.settled c.run_all.ensures.up c.run_all.ensures.ended
    c.run_all.ensures.refused c.run_all.ensures.stopped c.run_all.ensures.none
    (λ db up may. g.met.S.Store.settled _ db up may)

pub returns-in_err-ensure_open-clause-err : goal.returns-in_err-ensure_open-clause-err
returns-in_err-ensure_open-clause-err g c =
    not_sent_if (state g.S.Store c.args.conn.now) (state g.S.Store c.ensure_open.new.conn)
    (bodies_after_reset c.args.bytes.now) _ c.ensure_open.ensures.kept

pub returns-clause-made : goal.returns-clause-made
returns-clause-made g c = (all g c).0

pub returns-clause-refused : goal.returns-clause-refused
returns-clause-refused g c = (all g c).1

pub returns-clause-err : goal.returns-clause-err
returns-clause-err g c = (all g c).2
