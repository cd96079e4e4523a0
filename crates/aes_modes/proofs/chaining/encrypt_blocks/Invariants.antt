use Rattle.std.proofs.Common.{◌≡◌, ◌+◌, ◌*◌, ◌++◌, length}
use Rattle.aes_modes.specs.Modes.{chained, cbc_blocks}
use Rattle.aes_modes.proofs.chaining.encrypt_blocks.Given as goal

abbrev pub invariant-turns : goal.invariant-turns
invariant-turns l = record {
  size : length l.out.items ≡ length l.initial.out.items + 16 * l.i;
  out : l.out.items ≡ l.initial.out.items ++ cbc_blocks l.key l.fn.iv l.text l.i;
  before : l.before ≡ chained l.key l.fn.iv l.text l.i;
}
