use Rattle.std.proofs.Common.{◌≡◌, ℕ, ◌+◌, ◌*◌, ◌<◌, ◌≤◌, ◌++◌, List, length, ap, ◌∙◌, arith}
use Rattle.std.specs.Int.{w128, to_be_bytes}
use Rattle.fips_197.specs.Bytes.{xor_bytes}
use Rattle.fips_197.specs.Encrypt.{encrypted_block}
use Rattle.fips_197.specs.Texts.{block_of}
use Rattle.aes_modes.proofs.BatchTexts.{none_yet, blocks_further, block_at_batch}
use Rattle.aes_modes.proofs.batches.push_counted.Goals as goal

pub turns-init : goal.turns-init
turns-init c =
    let text = c.args.front.now ++ c.args.piece.now in
    none_yet (λ i. xor_bytes (block_of text i)
    (encrypted_block c.args.key.now (to_be_bytes w128 (c.args.first + i)))) c.args.out.now.items c.args.blocks

pub turns-preserved : goal.turns-preserved
turns-preserved c =
    let key = c.args.key.now in
    let first : ℕ = c.args.first in
    let front : List ℕ = c.args.front.now in
    let piece : List ℕ = c.args.piece.now in
    let n : ℕ = c.turns.n in
    let m : ℕ = c.min-left.result in
    let some : 8 * n < c.args.blocks = omega arith in
    let f : ℕ → List ℕ = λ i. xor_bytes (block_of (front ++ piece) i) (encrypted_block key (to_be_bytes w128 (first + i))) in
    let each = λ (k : ℕ) (lt : k < m).
    let low : k < 8 = omega (arith, lt, c.min-left.ensures) in
    let within : 16 * (8 * n + k) + 16 ≤ length front + length piece = omega (arith, lt, some, c.min-left.ensures, c.requires.within) in
    let sum : first + 8 * n + k ≡ first + (8 * n + k) = omega arith in
    let b = block_at_batch front piece c.batch_at.result n k c.batch_at.ensures low within in
    let e = c.encipher.ensures k lt low ∙ (λ t. encrypted_block (c.in_ok-cipher.ensures t) (c.numbers-counters.ensures k lt t))
    ∙ ap (λ v. encrypted_block key (to_be_bytes w128 v)) sum in
    c.xor_batches-batch.ensures k low ∙ (λ t. xor_bytes (b t) (e t)) in
    blocks_further f c.args.out.now.items c.turns.out.items c.xor_batches-batch.result c.extend_from_slice.new.self.items n
    c.args.blocks m c.turns.invariant
    c.min-left.ensures some each c.in_ok-extend_from_slice.ensures.items
