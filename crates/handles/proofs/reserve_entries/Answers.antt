use Rattle.std.proofs.Common.{arith}
use Rattle.handles.proofs.reserve_entries.Goals as goal

pub returns-clause-succeeds : goal.returns-clause-succeeds
returns-clause-succeeds c = λ room. c.reserve-2.ensures.succeeds
    (omega (arith, room, c.take_out.ensures.len, c.take_out.ensures.capacity, c.reserve.ensures.len, c.reserve.ensures.capacity))
