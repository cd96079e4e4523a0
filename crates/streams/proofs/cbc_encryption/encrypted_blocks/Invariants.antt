use Rattle.std.proofs.Common.{◌≡◌, ◌*◌, ◌++◌, length}
use Rattle.aes_modes.specs.Modes.{cbc_blocks, chained}
use Rattle.streams.proofs.cbc_encryption.encrypted_blocks.Given as goal

abbrev pub invariant-turns : goal.invariant-turns
invariant-turns l = record {
  size : length l.out.items ≡ 16 * l.i;
  out : l.out.items ≡ cbc_blocks l.key l.fn.start (l.kept ++ l.piece) l.i;
  chain : l.chain ≡ chained l.key l.fn.start (l.kept ++ l.piece) l.i;
}
