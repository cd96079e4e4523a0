use Rattle.line_places.proofs.Owing.{due-answered, due-refused}
use Rattle.line_places.proofs.law.dues.Goals as goal

pub returns-clause-refused : goal.returns-clause-refused
returns-clause-refused g = due-refused

pub returns-clause-answered : goal.returns-clause-answered
returns-clause-answered g = due-answered
