use Rattle.test_allocations.specs.Waiting.{IsWaiting}
use Rattle.test_allocations.proofs.pins.try_nine_times.Given as goal

abbrev pub invariant-checks : goal.invariant-checks
invariant-checks l = IsWaiting l.talk.token l.talk.out.items
