use Rattle.std.proofs.Common.{length}
use Rattle.find.proofs.codes.+code_for.Given as goal

abbrev pub decreases-code_for : goal.decreases-code_for
decreases-code_for l = length l.attributes.now
