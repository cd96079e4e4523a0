use Rattle.std.proofs.Common.{arith, rules}
use Rattle.sql_vacuum.proofs.Puts.{puts_all, puts_more, puts_none}
use Rattle.sql_vacuum.proofs.copying.put_each.Goals as goal

pub loop-row-init : goal.loop-row-init
loop-row-init g c = (λ clean. puts_none (g.S.Store.view c.args.store.now) c.args.table c.args.rows.now, search rules, search rules)

pub put_one-requires : goal.put_one-requires
put_one-requires g c = search rules

pub loop-row-preserved : goal.loop-row-preserved
loop-row-preserved g c = (
  λ clean. puts_more (g.S.Store.view c.args.store.now) (g.S.Store.view c.loop-row.store)
      (g.S.Store.view c.put_one.new.store) c.args.table c.args.rows.now c.loop-row.row-index c.row-item.result c.loop-row-test.true
      c.row-item.is
      (c.loop-row.invariant.0 (omega (arith, c.put_one.ensures.quiet.clean))) (c.in_ok-put_one.ensures.ok clean),
  search rules,
  search rules,
)

pub returns-clause-ok : goal.returns-clause-ok
returns-clause-ok g c = λ clean. puts_all (g.S.Store.view c.args.store.now)
    (g.S.Store.view c.loop-row.store) c.args.table c.args.rows.now c.loop-row.row-index (omega (arith, c.loop-row-test.false))
    (c.loop-row.invariant.0 clean)
