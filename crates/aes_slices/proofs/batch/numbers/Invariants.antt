use Rattle.std.proofs.Common.{◌≡◌, ℕ, ◌+◌, ◌<◌, length}
use Rattle.std.specs.Int.{w128, to_be_bytes}
use Rattle.fips_197.specs.Texts.{block_of}
use Rattle.aes_slices.proofs.batch.numbers.Given as goal

abbrev pub invariant-turns : goal.invariant-turns
invariant-turns l = record {
  size : length l.batch ≡ 128;
  so_far : (k : ℕ) → k < l.i → block_of l.batch k ≡ to_be_bytes w128 (l.fn.first + k);
}
