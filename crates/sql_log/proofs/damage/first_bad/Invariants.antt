use Rattle.std.proofs.Common.{ℕ, ◌<◌}
use Rattle.sqlite_wal.specs.Recovery.{Passes}
use Rattle.sql_log.proofs.damage.first_bad.Given as goal

abbrev pub invariant-loop-at : goal.invariant-loop-at
invariant-loop-at l = (i : ℕ) → i < l.at → Passes l.size l.log i
