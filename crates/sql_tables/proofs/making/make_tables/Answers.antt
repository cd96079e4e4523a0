use Rattle.sqlite.specs.Held.{state}
use Rattle.sql_statements.specs.Bodies.{new_bodies}
use Rattle.sql_statements.specs.Ran.{RanThree}
use Rattle.sql_statements.specs.Tables.{record_text, objects_text}
use Rattle.sql_statements.proofs.First.{first_text, creates_is}
use Rattle.sql_statements.proofs.Whole.{whole_if, whole_left, refused_shows, stopped_shows}
use Rattle.sql_tables.proofs.making.make_tables.Goals as goal

pub returns-clause-made : goal.returns-clause-made
returns-clause-made g c = λ has clean.
    whole_if g.S.Store c.args.conn.now c.run_all.new.conn
    (RanThree g.S.Store record_text objects_text first_text c.args.bytes.now c.args.conn.now) (new_bodies c.args.bytes.now)
    (λ db ran. creates_is g.S.Store c.args.conn.now c.args.bytes.now db has ran)
    c.run_all.result (c.run_all.ensures.all clean) c.run_all.ensures.settled (c.run_all.ensures.up clean) c.run_all.ensures.ended

pub returns-clause-refused : goal.returns-clause-refused
returns-clause-refused g c = λ db ready sees clean. refused_shows g.S.Store c.args.conn.now c.run_all.new.conn db ready sees clean
    c.run_all.result c.run_all.ensures.refused

pub returns-clause-same : goal.returns-clause-same
returns-clause-same g c = λ db ready sees clean up.
    stopped_shows (state g.S.Store c.args.conn.now)
    (state g.S.Store c.run_all.new.conn) db ready sees c.run_all.ensures.crash.clean clean c.run_all.result
    (c.run_all.ensures.none clean up) c.run_all.ensures.stopped

pub returns-clause-crash : goal.returns-clause-crash
returns-clause-crash g c = λ has clean left may.
    whole_left g.S.Store c.args.conn.now c.run_all.new.conn
    (RanThree g.S.Store record_text objects_text first_text c.args.bytes.now c.args.conn.now) (new_bodies c.args.bytes.now)
    (λ db ran. creates_is g.S.Store c.args.conn.now c.args.bytes.now db has ran)
    c.run_all.ensures.crash clean left may
