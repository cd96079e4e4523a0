use Rattle.std.proofs.Common.{arith}
use Rattle.handles.proofs.make_room.Goals as goal

pub returns-then-len-capacity-clause-room : goal.returns-then-len-capacity-clause-room
returns-then-len-capacity-clause-room c = λ room. omega (arith, room, c.take_out.ensures.len, c.take_out.ensures.capacity)
