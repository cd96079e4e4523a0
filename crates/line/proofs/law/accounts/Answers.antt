use Rattle.std.proofs.Common.{refl}
use Rattle.line.proofs.Turning.{account-begin, account-call, account-turn, account-nothing, lived-end, lived-cut, lived-stop, lived-leave}
use Rattle.line.proofs.law.accounts.Goals as goal

pub returns-clause-begins : goal.returns-clause-begins
returns-clause-begins g = λ a read written held. account-begin a.words a refl read written held

pub returns-clause-call : goal.returns-clause-call
returns-clause-call g = account-call

pub returns-clause-turn : goal.returns-clause-turn
returns-clause-turn g = account-turn

pub returns-clause-nothing : goal.returns-clause-nothing
returns-clause-nothing g = account-nothing

pub returns-clause-ended : goal.returns-clause-ended
returns-clause-ended g = lived-end

pub returns-clause-cut : goal.returns-clause-cut
returns-clause-cut g = lived-cut

pub returns-clause-stopped : goal.returns-clause-stopped
returns-clause-stopped g = lived-stop

pub returns-clause-left : goal.returns-clause-left
returns-clause-left g = lived-leave
