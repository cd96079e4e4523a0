use Rattle.sql_log.proofs.RunLemmas.{Counted}
use Rattle.sql_log.proofs.damage.commits_in_run.Given as goal

abbrev pub invariant-loop-at : goal.invariant-loop-at
invariant-loop-at l = Counted l.head l.size l.log l.from l.at l.count
