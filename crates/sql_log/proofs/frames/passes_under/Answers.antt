use Rattle.std.proofs.Common.{sym, rules, subst₂}
use Rattle.sqlite_wal.specs.Format.{IsFrame}
use Rattle.sql_log.proofs.frames.passes_under.Goals as goal

pub returns : goal.returns
returns c = (
  λ yes'. record {
    within = search rules;
    passes = subst₂ (λ s f. IsFrame c.args.head.now s f) c.sum_ahead_of.ensures c.frame_of.ensures.value (c.is_frame.ensures.0 yes');
  },
  λ it. c.is_frame.ensures.1 (subst₂ (λ s f. IsFrame c.args.head.now s f) (sym c.sum_ahead_of.ensures)
      (sym c.frame_of.ensures.value) it.passes),
)
