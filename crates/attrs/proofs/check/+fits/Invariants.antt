use Rattle.std.proofs.Common.{length}
use Rattle.attrs.proofs.check.+fits.Given as goal

abbrev pub decreases-fits : goal.decreases-fits
decreases-fits l = length l.rows.now
