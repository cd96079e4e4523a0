use Rattle.std.proofs.Common.{◌≡◌, ◌≤◌, All, length}
use Rattle.std.specs.Prelude.{map, reverse}
use Rattle.model_worlds.specs.Events.{HasRandom}
use Rattle.model_worlds.specs.Worlds.{World}
use Rattle.model_runs.specs.Applications.{Shows}
use Rattle.model_runs.specs.Runs.{MayLeave, HasIds, IsRun, AccountsFor, blames}
use Rattle.token.proofs.token.Token.run.Given as goal

abbrev pub invariant-events : goal.invariant-events
invariant-events g l =
    (g.K.Keep.terms.doubt l.fn.self.store.keep ≤ g.K.Keep.terms.doubt l.self.store.keep)
    × (g.K.Keep.terms.doubt l.self.store.keep ≡ 0 → (w : World) → Shows g.K.Keep.terms l.fn.self w
    → IsRun (Shows g.K.Keep.terms l.self) (MayLeave g.K.Keep.terms l.fn.self)
    (MayLeave g.K.Keep.terms l.self) w l.fn.events.items l.replies.items (reverse l.events.items) l.out.items)
    × All HasRandom l.events.items
    × AccountsFor (g.K.Keep.terms.failures l.fn.self.store.keep) (g.K.Keep.terms.failures l.self.store.keep)
    (map (λ r. r.1) l.replies.items)
    × (HasIds g.K.Keep.terms l.fn.self l.fn.out.items (length l.fn.events.items) → (blames (map (λ r. r.1) l.replies.items) ≡ 0)
    × HasIds g.K.Keep.terms l.self l.out.items (length l.events.items))

abbrev pub decreases-events : goal.decreases-events
decreases-events g l = length l.events.items
