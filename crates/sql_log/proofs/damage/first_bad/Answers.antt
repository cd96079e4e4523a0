use Rattle.std.proofs.Common.{rules, IsTrue}
use Rattle.sql_log.proofs.FrameLemmas.{passes_of, passes_up_to}
use Rattle.sql_log.proofs.damage.first_bad.Goals as goal

pub returns-then-not-passes_under-clause-bad : goal.returns-then-not-passes_under-clause-bad
returns-then-not-passes_under-clause-bad c =
    (search rules, λ passes. absurd (let h : IsTrue c.passes_under.result = c.passes_under.ensures.1 (passes_of _ _ _ passes) in cc))

pub loop-at-preserved : goal.loop-at-preserved
loop-at-preserved c = passes_up_to c.args.log.now c.args.size c.loop-at.at c.loop-at.invariant (c.passes_under.ensures.0 (search rules))
