use Rattle.std.proofs.Common.{length}
use Rattle.templates.proofs.conditions.+find_form.Given as goal

abbrev pub decreases-find_form : goal.decreases-find_form
decreases-find_form l = length l.rows.now
