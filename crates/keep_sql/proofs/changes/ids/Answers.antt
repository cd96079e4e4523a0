use Rattle.std.proofs.Common.{◌∙◌, arith}
use Rattle.sqlite.specs.State.{HasCleanDisk}
use Rattle.sqlite.specs.Held.{state}
use Rattle.sql_statements.specs.Bodies as tables
use Rattle.keep_sql_model.proofs.Opens.{if_found, on_ok}
use Rattle.keep_sql_model.proofs.Lifts.{bodies_of, hold_rows, same_ids, stayed}
use Rattle.keep_sql.proofs.changes.ids.Goals as goal

pub returns-in-Ok-clause-ids : goal.returns-in-Ok-clause-ids
returns-in-Ok-clause-ids g c = λ clean d h.
    if_found _ _ c.ids_of.result (λ out is. is ∙ same_ids d)
    (c.ids_of.ensures.ids (tables.row_ids (bodies_of d))
    (c.as_slice.ensures.value ∙ c.in-Ok.ensures.ids clean (bodies_of d) (hold_rows (state g.S.Store c.args.conn.now) d h)))

pub returns-in-Ok-clause-sound : goal.returns-in-Ok-clause-sound
returns-in-Ok-clause-sound g c = λ clean d h.
    let was : HasCleanDisk (state g.S.Store c.args.conn.now) = omega (arith, c.read_ids.ensures.same.clean) in
    on_ok _ c.ids_of.result (h was
    (c.read_ids.ensures.same.was_open clean
    (c.in-Ok.ensures.open clean (bodies_of d) (hold_rows (state g.S.Store c.args.conn.now) d h)))).stores.sound

pub returns-in-Ok-clause-same : goal.returns-in-Ok-clause-same
returns-in-Ok-clause-same g c = stayed (state g.S.Store c.args.conn.now) (state g.S.Store c.read_ids.new.conn) c.read_ids.ensures.same

pub returns-in-Err-clause-same : goal.returns-in-Err-clause-same
returns-in-Err-clause-same g c = stayed (state g.S.Store c.args.conn.now) (state g.S.Store c.read_ids.new.conn) c.read_ids.ensures.same
