-- CTR by numbers that are counted.
use Rattle.std.proofs.Common.{◌≡◌, ℕ, zero, suc, ◌+◌, ◌^◌, ◌*◌, ◌<◌, ◌≤◌, List, length, ap, refl, ◌∙◌, arith}
use Rattle.std.specs.Int.{w128, to_be_bytes, from_be_bytes}
use Rattle.fips_197.specs.Bytes.{IsBlock, xor_bytes}
use Rattle.fips_197.specs.KeyExpansion.{IsKey}
use Rattle.fips_197.proofs.KeySchedules.{IsBlock-encrypted_block}
use Rattle.fips_197.proofs.TextBlocks.{AreBytes-bytes_high_first}
use Rattle.aes_modes.proofs.CounterTexts.{length-xor_short}
use Rattle.fips_197.specs.Encrypt.{encrypted_block}
use Rattle.fips_197.specs.Texts.{block_of}
use Rattle.aes_modes.specs.Blocks.{first_blocks}
use Rattle.aes_modes.specs.Counter.{counter_start}
use Rattle.aes_modes.specs.Modes.{output_block, ctr_block, ctr_blocks}
use Rattle.aes_modes.proofs.CounterNumbers.{counter-fits, counter_block-sum}
use Rattle.aes_modes.proofs.Texts.{first_blocks-alike, length-first_blocks, length-block_of}

pub counters-fit : (v : ℕ) (start : List ℕ) (m n : ℕ) → m ≤ 128 → v < 2 ^ 128 → v ≡ from_be_bytes w128 start
    → counter_start m start + n ≤ 2 ^ m → v + n ≤ 2 ^ 128
counters-fit v start m zero le fits is within = omega (arith, fits)
counters-fit v start m (suc n) le fits is within =
    let last = counter-fits v start m n le fits is (omega (arith, within)) in
    omega (arith, last)

pub ctr_blocks-counted : (key : List ℕ) (m : ℕ) (start text : List ℕ) (v n : ℕ) → v ≡ from_be_bytes w128 start
    → counter_start m start + n ≤ 2 ^ m
    → first_blocks (λ i. xor_bytes (block_of text i) (encrypted_block key (to_be_bytes w128 (v + i)))) n ≡ ctr_blocks key m start text n
unfolding ctr_block output_block
ctr_blocks-counted key m start text v n is within =
    first_blocks-alike (λ i. xor_bytes (block_of text i) (encrypted_block key (to_be_bytes w128 (v + i)))) (ctr_block key m start text) n
    (λ i lt. ap (λ b. xor_bytes (block_of text i) (encrypted_block key b))
    (ap (λ w. to_be_bytes w128 (w + i)) is ∙ counter_block-sum m start i (omega (arith, within, lt))))

pub counted-size : (key text : List ℕ) (v n : ℕ) → IsKey key → 16 * n ≤ length text
    → length (first_blocks (λ i. xor_bytes (block_of text i) (encrypted_block key (to_be_bytes w128 (v + i)))) n) ≡ 16 * n
counted-size key text v n is_key within =
    length-first_blocks (λ i. xor_bytes (block_of text i) (encrypted_block key (to_be_bytes w128 (v + i)))) n (λ i lt.
    let block : IsBlock (to_be_bytes w128 (v + i)) = record { size = refl; bytes = AreBytes-bytes_high_first 16 _ } in
    let output = IsBlock-encrypted_block key (to_be_bytes w128 (v + i)) is_key block in
    let size = length-block_of text i (omega (arith, within, lt)) in
    length-xor_short (block_of text i) (encrypted_block key (to_be_bytes w128 (v + i))) (omega (arith, size, output.size)) ∙ size)
