use Rattle.test_allocations.specs.Waiting.{IsWaiting}
use Rattle.test_allocations.proofs.ciphers.play.Given as goal

abbrev pub invariant-rows : goal.invariant-rows
invariant-rows l = IsWaiting l.talk.token l.talk.out.items
