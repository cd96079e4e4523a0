use Rattle.std.proofs.Common.{All}
use Rattle.model_worlds.specs.Events.{HasRandom}
use Rattle.test_allocations.proofs.events.events_of.Given as goal

abbrev pub invariant-rows : goal.invariant-rows
invariant-rows l = All HasRandom l.events.items
