use Rattle.pin_record.proofs.Counting.{starts, goes_on, ten, fewer, few}
use Rattle.pin_record.proofs.laws.ten_tries.Goals as goal

pub returns : goal.returns
returns c = record { begins = starts; goes_on = goes_on; ten = ten; fewer = fewer; few = few }
