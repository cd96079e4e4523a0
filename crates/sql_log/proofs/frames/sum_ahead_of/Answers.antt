use Rattle.std.proofs.Common.{sym, ◌∙◌, ap, arith}
use Rattle.std.proofs.lemmas.List.{length-take-le}
use Rattle.sqlite_wal.specs.Format.{stored_sum}
use Rattle.sql_log.proofs.FrameLemmas.{header_fits, first_sum, later_sum, frame_before}
use Rattle.sql_log.proofs.frames.sum_ahead_of.Goals as goal

pub slice_bounds-sum_at-end : goal.slice_bounds-sum_at-end
slice_bounds-sum_at-end c = sym (length-take-le 32 c.args.log.now (header_fits _ _ _ c.requires.within))

pub sum_at-requires : goal.sum_at-requires
sum_at-requires c = let len = length-take-le 32 c.args.log.now (header_fits _ _ _ c.requires.within) in omega (arith, len)

pub frame_of-requires-clause-within : goal.frame_of-requires-clause-within
frame_of-requires-clause-within c = frame_before c.args.size c.args.at _ c.if-at-eq0.false c.requires.within

pub returns-then-at-eq0 : goal.returns-then-at-eq0
returns-then-at-eq0 c = c.sum_at.ensures ∙ first_sum c.args.log.now c.args.size c.args.at c.if-at-eq0.true

pub returns-else-at-eq0 : goal.returns-else-at-eq0
returns-else-at-eq0 c = c.sum_at-else-at-eq0.ensures ∙ ap (λ f. stored_sum f 16) c.frame_of.ensures.value
    ∙ later_sum c.args.log.now c.args.size c.args.at c.if-at-eq0.false
