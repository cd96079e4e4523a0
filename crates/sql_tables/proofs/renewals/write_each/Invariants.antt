use Rattle.std.proofs.Common.{◌≡◌, take}
use Rattle.sql_tables.proofs.Each.{Wrote}
use Rattle.sql_tables.proofs.renewals.write_each.Given as goal

abbrev pub invariant-loop-renewal : goal.invariant-loop-renewal
invariant-loop-renewal g l = (l.tx.conn.ghost_name ≡ l.fn.tx.conn.ghost_name)
    × Wrote g.S.Store (take l.renewal-index l.renewals) l.fn.tx.conn.now l.tx.conn.now
