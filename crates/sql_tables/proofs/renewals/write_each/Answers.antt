use Rattle.std.proofs.Common.{refl, ◌∙◌, arith}
use Rattle.sql_tables.proofs.Each.{wrote_none, wrote_more, nothing_left, all_written, stopped_keeps}
use Rattle.sql_tables.proofs.renewals.write_each.Goals as goal

pub loop-renewal-init : goal.loop-renewal-init
loop-renewal-init g c = (refl, wrote_none g.S.Store c.args.tx.now.conn.now)

pub returns-in_err-write_one-clause-same_reference : goal.returns-in_err-write_one-clause-same_reference
returns-in_err-write_one-clause-same_reference g c = c.write_one.ensures.same_reference ∙ c.loop-renewal.invariant.0

pub returns-in_err-write_one-clause-kept : goal.returns-in_err-write_one-clause-kept
returns-in_err-write_one-clause-kept g c = λ clean mode.
    stopped_keeps g.S.Store _ c.args.tx.now.conn.now c.loop-renewal.tx.conn.now c.write_one.new.tx.conn.now _ _
    c.loop-renewal.invariant.1 c.write_one.ensures.survives c.write_one.ensures.runs clean mode

pub returns-in_err-write_one-clause-survives : goal.returns-in_err-write_one-clause-survives
returns-in_err-write_one-clause-survives g c =
    nothing_left g.S.Store c.args.tx.now.conn.now c.loop-renewal.tx.conn.now c.write_one.new.tx.conn.now
    c.loop-renewal.invariant.1.0 c.write_one.ensures.survives

pub loop-renewal-preserved : goal.loop-renewal-preserved
loop-renewal-preserved g c = (
  c.write_one.ensures.same_reference ∙ c.loop-renewal.invariant.0,
  wrote_more g.S.Store c.args.renewals.now c.loop-renewal.renewal-index c.renewal-item.result c.args.tx.now.conn.now
      c.loop-renewal.tx.conn.now c.write_one.new.tx.conn.now c.in_ok-write_one.field-0 c.loop-renewal-test.true c.renewal-item.is
      c.loop-renewal.invariant.1 c.write_one.ensures.survives c.in_ok-write_one.ensures.runs,
)

pub returns-clause-same_reference : goal.returns-clause-same_reference
returns-clause-same_reference g c = c.loop-renewal.invariant.0

pub returns-clause-ran : goal.returns-clause-ran
returns-clause-ran g c = λ clean mode. all_written g.S.Store c.args.renewals.now c.loop-renewal.renewal-index c.args.tx.now.conn.now
    c.loop-renewal.tx.conn.now (omega (arith, c.loop-renewal-test.false)) c.loop-renewal.invariant.1 clean mode

pub returns-clause-kept : goal.returns-clause-kept
returns-clause-kept g c = λ clean mode. (c.loop-renewal.invariant.1.1 clean mode).1

pub returns-clause-survives : goal.returns-clause-survives
returns-clause-survives g c = c.loop-renewal.invariant.1.0
