use Rattle.std.proofs.Common.{◌≡◌}
use Rattle.fips_197.proofs.Blocks.{xored}
use Rattle.aes_base.proofs.sums.xor_blocks.Given as goal

abbrev pub invariant-loop-i : goal.invariant-loop-i
invariant-loop-i l = l.sum ≡ xored l.fn.x l.y l.i
