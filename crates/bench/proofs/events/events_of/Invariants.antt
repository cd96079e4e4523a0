use Rattle.std.proofs.Common.{All}
use Rattle.model_worlds.specs.Events.{HasRandom}
use Rattle.bench.proofs.events.events_of.Given as goal

abbrev pub invariant-loop-number : goal.invariant-loop-number
invariant-loop-number l = All HasRandom l.events.items
