use Rattle.std.proofs.Common.{◌≡◌, refl, subst, Err}
use Rattle.wire.specs.declared.fault.WireFault.{WireFault}
use Rattle.wire.specs.declared.fault.WireFault.TheVariants as faults
use Rattle.wire.specs.Replies.{HasReplyFrame}
use Rattle.line.specs.Asking.{Queues}
use Rattle.line.proofs.Framing.{short-framed}
use Rattle.line.proofs.connection.Connection.answer.Goals as goal

pub unreachable-requires : goal.unreachable-requires
unreachable-requires g c = by c.in-Err.fault c.in_default.not-Memory
    (short-framed c.args.reply.now c.queue.ensures.fits c.requires.short)
    (subst (Queues c.self.inside.out c.queue.new.self c.args.reply.now) c.in-Err.is c.queue.ensures.queues) where
      by : (fault : WireFault) → (fault ≡ faults.Memory → ⊥) → HasReplyFrame c.args.reply.now
          → Queues {U = Unit {0}} c.self.inside.out c.queue.new.self c.args.reply.now (Err fault) → ⊥
      by faults.Memory not framed q = not refl
      by faults.UnknownFunction not framed q = q.1 framed
      by faults.Malformed not framed q = q.1 framed
      by faults.TooLong not framed q = q.1 framed
