use Rattle.sql_vacuum.proofs.Files.{found_again}
use Rattle.sql_vacuum.proofs.laws.vacuum_then_open.Goals as goal

pub returns : goal.returns
returns g c = λ trees d bytes version next store file it sure. found_again trees d bytes version next store file it sure
