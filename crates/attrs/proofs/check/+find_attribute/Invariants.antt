use Rattle.std.proofs.Common.{length}
use Rattle.attrs.proofs.check.+find_attribute.Given as goal

abbrev pub decreases-find_attribute : goal.decreases-find_attribute
decreases-find_attribute l = length l.entries.now
