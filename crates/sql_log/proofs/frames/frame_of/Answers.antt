use Rattle.sql_log.proofs.FrameLemmas.{frame_is}
use Rattle.sql_log.proofs.frames.frame_of.Goals as goal

pub returns-clause-value : goal.returns-clause-value
returns-clause-value c = frame_is c.args.log.now c.args.size c.args.at _ c.start_of-start.ensures.value
