-- The counter blocks of CTR (SP 800-38A, 6.5). The m low bits of a block count, as a number whose
-- highest bit comes first, and its other bits stay (appendix B.1).
use Rattle.std.specs.Prelude.{ℕ, ◌+◌, ◌*◌, ◌/◌, ◌%◌, ◌^◌, List}
use Rattle.std.specs.Int.{w128, from_be_bytes, to_be_bytes}

-- the number that the m low bits of a block are
unfoldable pub counter_start : ℕ → List ℕ → ℕ
counter_start m start = from_be_bytes w128 start % 2 ^ m

-- counter block i, counted from 0: the start with i added to the m low bits, modulo 2^m
unfoldable pub counter_block : ℕ → List ℕ → ℕ → List ℕ
counter_block m start i =
    to_be_bytes w128 (from_be_bytes w128 start / 2 ^ m * 2 ^ m + (counter_start m start + i) % 2 ^ m)
