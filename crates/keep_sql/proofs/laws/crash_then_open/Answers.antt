use Rattle.keep_sql.proofs.Crashes.{finds_left}
use Rattle.keep_sql.proofs.laws.crash_then_open.Goals as goal

pub returns : goal.returns
returns g c = λ k next image clean numbered sound may it sure. finds_left k next image clean numbered sound may it sure
