use Rattle.std.proofs.Common.{refl, rules}
use Rattle.sessions.specs.Sessions.{busy_with}
use Rattle.sessions.proofs.ChangeLemmas.{in_order-map}
use Rattle.sessions.proofs.Retaining.{retained_each}
use Rattle.sessions.proofs.end_work.Goals as goal

pub returns : goal.returns
returns g c =
    rw (retained_each _ (busy_with g.W.Activity.idle) _ (λ key shown keep left next k. search rules) 0 _ _ c.retain.ensures.retained)
    (in_order-map (λ s. s.handle) (busy_with g.W.Activity.idle) (λ s. refl) c.args.sessions.now.slots)
