-- Eight blocks of a text.
use Rattle.std.specs.Prelude.{ℕ, ◌+◌, ◌*◌, List}
use Rattle.fips_197.specs.Texts.{block_of}
use Rattle.aes_planes.specs.declared.planes.Eight.{Eight}

-- the blocks of a text from block 8 n on
unfoldable pub eight_at : List ℕ → ℕ → Eight
eight_at text n = record {
  v0 = block_of text (8 * n);
  v1 = block_of text (8 * n + 1);
  v2 = block_of text (8 * n + 2);
  v3 = block_of text (8 * n + 3);
  v4 = block_of text (8 * n + 4);
  v5 = block_of text (8 * n + 5);
  v6 = block_of text (8 * n + 6);
  v7 = block_of text (8 * n + 7);
}
