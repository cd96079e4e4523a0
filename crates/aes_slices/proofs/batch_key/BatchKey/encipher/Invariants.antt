use Rattle.std.proofs.Common.{◌≡◌, ℕ, ◌<◌, length}
use Rattle.fips_197.specs.Encrypt.{encrypted_block}
use Rattle.fips_197.specs.Texts.{block_of}
use Rattle.aes_slices.proofs.batch_key.BatchKey.encipher.Given as goal

abbrev pub invariant-turns : goal.invariant-turns
invariant-turns l = record {
  size : length l.out ≡ 128;
  so_far : (k : ℕ) → k < l.i → block_of l.out k ≡ encrypted_block l.self (block_of l.batch k);
}
