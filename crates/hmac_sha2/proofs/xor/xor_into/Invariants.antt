use Rattle.std.proofs.Common.{◌≡◌}
use Rattle.hmac_sha2.proofs.XorBytes.{done}
use Rattle.hmac_sha2.proofs.xor.xor_into.Given as goal

abbrev pub invariant-loop-i : goal.invariant-loop-i
invariant-loop-i l = l.sum ≡ done l.fn.sum l.bytes l.i
