use Rattle.std.proofs.Common.{◌≡◌, ◌-◌}
use Rattle.fips_197.specs.InverseCipher.{inverse_state_after}
use Rattle.aes_block.specs.Words.{words_bytes, state_bytes}
use Rattle.aes_block.proofs.cipher.decrypt.Given as goal

abbrev pub invariant-rounds : goal.invariant-rounds
invariant-rounds l = state_bytes l.s ≡ inverse_state_after (words_bytes l.schedule) l.rounds l.fn.block (l.i - 1)
