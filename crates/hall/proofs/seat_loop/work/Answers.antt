use Rattle.hall.proofs.Turns.{answered_so}
use Rattle.hall.proofs.seat_loop.work.Goals as goal

pub returns-in-Reply-clause-done : goal.returns-in-Reply-clause-done
returns-in-Reply-clause-done g c = (c.run-done.result, c.run-done.ensures, answered_so _ _ _ _ _ c.in_ok-reply.ensures.done c.in-Reply.is)
