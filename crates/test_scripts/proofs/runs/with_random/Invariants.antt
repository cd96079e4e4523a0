use Rattle.std.proofs.Common.{All}
use Rattle.model_worlds.specs.Events.{HasRandom}
use Rattle.test_scripts.proofs.runs.with_random.Given as goal

abbrev pub invariant-loop-event : goal.invariant-loop-event
invariant-loop-event l = All HasRandom l.ready.items
