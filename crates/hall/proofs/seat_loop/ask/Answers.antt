use Rattle.std.proofs.Common.{◌∷◌, [], refl, inr, Some}
use Rattle.serve_base.specs.declared.out.Out.TheVariants.{Reply, Ask}
use Rattle.hall_log.specs.declared.event.Event.TheVariants.{Call, Finish}
use Rattle.hall_log.specs.SeatLogs.{done_by}
use Rattle.hall.proofs.Turns.{answered_so, if_some, pending_is, there_still, two_more}
use Rattle.hall.proofs.seat_loop.ask.Goals as goal

pub work-requires-clause-there : goal.work-requires-clause-there
work-requires-clause-there g c =
    there_still c.args.call.app (done_by c.args.port.now.putter) (done_by c.ask.new.self.putter) c.args.call
    (Some c.in_ok-reply.field-0) c.requires.may.there c.in_ok-reply.ensures.done

pub work-requires-clause-job : goal.work-requires-clause-job
work-requires-clause-job g c =
    pending_is (done_by c.args.port.now.putter) (done_by c.ask.new.self.putter) (Call c.args.call, Some (Ask c.in-Ask.job))
    (answered_so _ _ _ _ _ c.in_ok-reply.ensures.done c.in-Ask.is)

pub returns-in-Reply-clause-settled : goal.returns-in-Reply-clause-settled
returns-in-Reply-clause-settled g c =
    pending_is (done_by c.args.port.now.putter) (done_by c.ask.new.self.putter) (Call c.args.call, Some (Reply c.in-Reply.reply))
    (answered_so _ _ _ _ _ c.in_ok-reply.ensures.done c.in-Reply.is)

pub returns-in-Ask-clause-done : goal.returns-in-Ask-clause-done
returns-in-Ask-clause-done g c = if_some c.work.result _ _
    (λ r h. (
      (Call c.args.call, Some (Ask c.in-Ask.job)) ∷ (Finish c.args.call.app h.0, Some (Reply r)) ∷ [],
      inr (c.in-Ask.job, h.0, r, h.1, refl),
      refl,
      two_more (done_by c.args.port.now.putter) (done_by c.ask.new.self.putter) (done_by c.work.new.port.putter)
          (Call c.args.call, Some (Ask c.in-Ask.job)) (Finish c.args.call.app h.0, Some (Reply r))
          (answered_so _ _ _ _ _ c.in_ok-reply.ensures.done c.in-Ask.is) h.2,
    ))
    c.work.ensures.done

pub returns-in-Ask-clause-settled : goal.returns-in-Ask-clause-settled
returns-in-Ask-clause-settled g c = if_some c.work.result _ _
    (λ r h. pending_is (done_by c.ask.new.self.putter) (done_by c.work.new.port.putter) (Finish c.args.call.app h.0, Some (Reply r)) h.2)
    c.work.ensures.done
