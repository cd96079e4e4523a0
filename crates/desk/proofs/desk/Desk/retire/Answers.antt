use Rattle.std.proofs.Common.{◌≡◌, false, not}
use Rattle.std.specs.Prelude.{◌==◌}
use Rattle.lists.proofs.InOrderLemmas.{All-filter}
use Rattle.desk.proofs.desk.Desk.retire.Goals as goal

pub invariant_of-self : goal.invariant_of-self
invariant_of-self c out = rw c.retire.ensures
    (All-filter (λ h. h.private ≡ false) (λ h. not (h.id == c.args.id)) c.self.inside.handles.entries (c.self.invariant out))
