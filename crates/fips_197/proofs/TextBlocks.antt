-- Texts by their blocks, and the bytes of a number.
use Rattle.std.proofs.Common.{◌≡◌, ℕ, zero, suc, ◌+◌, ◌-◌, ◌*◌, ◌/◌, ◌^◌, ◌<◌, List, take, drop, ap, arith, mod-lt, lit<}
use Rattle.std.specs.Int.{byte_at, bytes_high_first}
use Rattle.std.proofs.lemmas.List.Elements.{All-nil}
use Rattle.fips_197.specs.Bytes.{AreBytes}
use Rattle.fips_197.specs.Texts.{block_of}
use Rattle.fips_197.proofs.Blocks.{AreBytes-cons}

-- what a slice of 16 bytes is
pub block_of-slice : (text : List ℕ) (i : ℕ) → take (16 * i + 16 - 16 * i) (drop (16 * i) text) ≡ block_of text i
unfolding block_of
block_of-slice text i = let n : 16 * i + 16 - 16 * i ≡ 16 = omega arith in ap (λ k. take k (drop (16 * i) text)) n

byte_at-below : (k n : ℕ) → byte_at k n < 256
byte_at-below zero n = omega arith
byte_at-below (suc k) n = mod-lt (n / 256 ^ suc k) (lit< tt)

pub AreBytes-bytes_high_first : (k n : ℕ) → AreBytes (bytes_high_first k n)
AreBytes-bytes_high_first zero n = All-nil (λ b. b < 256)
AreBytes-bytes_high_first (suc k) n =
    AreBytes-cons (byte_at k n) (bytes_high_first k n) (byte_at-below k n) (AreBytes-bytes_high_first k n)
