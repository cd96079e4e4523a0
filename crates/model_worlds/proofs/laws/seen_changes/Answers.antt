use Rattle.model_worlds.proofs.Seen.{left-out, nothing-saw}
use Rattle.model_worlds.proofs.laws.seen_changes.Goals as goal

pub returns : goal.returns
returns c = record { left_out = left-out; only = nothing-saw }
