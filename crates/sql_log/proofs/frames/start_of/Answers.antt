use Rattle.sql_log.proofs.FrameLemmas.{start_is}
use Rattle.sql_log.proofs.frames.start_of.Goals as goal

pub returns-clause-value : goal.returns-clause-value
returns-clause-value c = start_is c.args.size c.args.at
