use Rattle.std.proofs.Common.{arith, ap, ◌∙◌}
use Rattle.std.specs.Prelude.{Vec}
use Rattle.std.specs.declared.alloc.Global.{Global}
use Rattle.sql_tables.specs.declared.renewals.Renewal.{Renewal}
use Rattle.keep_sql_model.proofs.Covers.{all_covered, covered_more, none_covered, none_owned, owned_more, same_covered}
use Rattle.keep_sql.proofs.rows.check_rows.Goals.{in-Some+in_ok-push-in-Some, in-None}
use Rattle.keep_sql.proofs.rows.check_rows.Goals as goal

pub loop-row-init : goal.loop-row-init
loop-row-init c = (
  none_covered c.new-renewals.result.items c.args.rows.now,
  none_owned c.new-renewals.result.items c.args.rows.now c.new-renewals.ensures.items,
)

pub loop-row-preserved : goal.loop-row-preserved
loop-row-preserved c = elim c.match-branch-2.branch [
  | in-Some+in_ok-push-in-Some w ↦
      let renews = rw w.in-Some.is at c.in_ok-renewal.ensures.ok in
      let items = ap (λ (v : Vec Renewal Global). v.items) w.renewals-is ∙ w.in_ok-push-in-Some.ensures.items in (
        covered_more c.loop-row.renewals.items w.in-Some.renewal c.args.rows.now c.loop-row.row-index c.row-item.result
            c.row-item.is c.loop-row-test.true c.match-branch-2.renewals.items items c.loop-row.invariant.0 renews,
        owned_more c.loop-row.renewals.items w.in-Some.renewal c.args.rows.now c.loop-row.row-index c.row-item.result c.row-item.is
            c.loop-row-test.true c.match-branch-2.renewals.items items c.loop-row.invariant.1 renews,
      )
  | in-None w ↦
      let shows = rw w.in-None.is at c.in_ok-renewal.ensures.ok in
      let items = ap (λ (v : Vec Renewal Global). v.items) w.renewals-is in
      same_covered c.loop-row.renewals.items c.args.rows.now c.loop-row.row-index c.row-item.result c.row-item.is
      c.loop-row-test.true c.match-branch-2.renewals.items items c.loop-row.invariant shows
]

pub returns-clause-covered : goal.returns-clause-covered
returns-clause-covered c = all_covered c.loop-row.renewals.items c.args.rows.now c.loop-row.row-index
    (omega (arith, c.loop-row-test.false)) c.loop-row.invariant.0

pub returns-clause-own : goal.returns-clause-own
returns-clause-own c = c.loop-row.invariant.1
