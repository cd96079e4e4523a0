use Rattle.std.proofs.Common.{◌≡◌, ◌+◌, ◌*◌, ◌++◌, length}
use Rattle.aes_kw.specs.KeyWrap.{after_steps, initial_value}
use Rattle.aes_kw.proofs.wrapping.wrap.Given as goal

abbrev pub invariant-steps : goal.invariant-steps
invariant-steps l = record {
  size : length l.registers.items ≡ 8 * l.n + 8;
  registers : l.registers.items ≡ after_steps l.key l.n (initial_value ++ l.value) l.done;
}
