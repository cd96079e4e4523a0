use Rattle.std.proofs.Common.{◌≡◌, ◌-◌}
use Rattle.fips_197.specs.Cipher.{state_after}
use Rattle.aes_block.specs.Words.{words_bytes, state_bytes}
use Rattle.aes_block.proofs.cipher.encrypt.Given as goal

abbrev pub invariant-rounds : goal.invariant-rounds
invariant-rounds l = state_bytes l.s ≡ state_after (words_bytes l.schedule) (state_bytes l.fn.state) (l.r - 1)
