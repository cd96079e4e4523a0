use Rattle.std.proofs.Common.{refl}
use Rattle.sqlite.specs.Held.{state}
use Rattle.keep_sql.proofs.Outcomes.{autocommits, not_tried, seen_again, then_not_opened, then_opened}
use Rattle.keep_sql.proofs.opening.open_store.Goals as goal

pub returns-in-Ok-clause-opened : goal.returns-in-Ok-clause-opened
returns-in-Ok-clause-opened g c =
    let sees = autocommits (state g.S.Store c.args.conn.now) c.if-not-is_autocommit.ensures.value
    (c.if-not-is_autocommit.ensures.settled refl) in
    let before = state g.S.Store c.ensure_open.new.conn in
    let again = seen_again (state g.S.Store c.args.conn.now) before before c.ensure_open.ensures.kept c.in-Ok.ensures.open sees in
    then_opened (state g.S.Store c.args.conn.now) before
    (state g.S.Store c.open_ready.new.conn) c.ensure_open.ensures.kept c.in-Ok.ensures.open sees c.open_ready.result
    (c.open_ready.ensures.opened c.in-Ok.ensures.open again)

pub returns-in-Ok-clause-not_opened : goal.returns-in-Ok-clause-not_opened
returns-in-Ok-clause-not_opened g c =
    let sees = autocommits (state g.S.Store c.args.conn.now) c.if-not-is_autocommit.ensures.value
    (c.if-not-is_autocommit.ensures.settled refl) in
    let before = state g.S.Store c.ensure_open.new.conn in
    let again = seen_again (state g.S.Store c.args.conn.now) before before c.ensure_open.ensures.kept c.in-Ok.ensures.open sees in
    then_not_opened (state g.S.Store c.args.conn.now) before
    (state g.S.Store c.open_ready.new.conn) c.ensure_open.ensures.kept c.in-Ok.ensures.open sees c.open_ready.result
    (c.open_ready.ensures.not_opened c.in-Ok.ensures.open again)

pub returns-in-Err-clause-not_opened : goal.returns-in-Err-clause-not_opened
returns-in-Err-clause-not_opened g c =
    let sees = autocommits (state g.S.Store c.args.conn.now) c.if-not-is_autocommit.ensures.value
    (c.if-not-is_autocommit.ensures.settled refl) in
    not_tried (state g.S.Store c.args.conn.now) (state g.S.Store c.ensure_open.new.conn) _ c.ensure_open.ensures.kept sees
    (λ e. absurd (cc))
