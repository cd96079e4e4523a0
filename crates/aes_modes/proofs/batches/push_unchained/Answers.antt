use Rattle.std.proofs.Common.{◌≡◌, ℕ, ◌+◌, ◌*◌, ◌<◌, ◌≤◌, ◌++◌, List, length, take, ap, ◌∙◌, arith}
use Rattle.std.proofs.lemmas.List.{append_assoc, length-append}
use Rattle.fips_197.specs.Bytes.{xor_bytes}
use Rattle.fips_197.specs.Texts.{block_of}
use Rattle.aes_slices.specs.Decrypt.{decrypted_block}
use Rattle.aes_modes.proofs.BatchTexts.{none_yet, blocks_further, block_at_batch}
use Rattle.aes_modes.proofs.batches.push_unchained.Goals as goal

pub turns-init : goal.turns-init
turns-init c =
    let text = c.args.front.now ++ c.args.piece.now in
    none_yet (λ i. xor_bytes (decrypted_block c.args.key.now (block_of text i))
    (block_of (c.args.iv ++ text) i)) c.args.out.now.items c.args.blocks

pub turns-preserved : goal.turns-preserved
turns-preserved c =
    let key = c.args.key.now in
    let iv : List ℕ = c.args.iv in
    let front : List ℕ = c.args.front.now in
    let piece : List ℕ = c.args.piece.now in
    let before : List ℕ = take (16 + length front) c.after_block-joined.result in
    let n : ℕ = c.turns.n in
    let m : ℕ = c.min-left.result in
    let some : 8 * n < c.args.blocks = omega arith in
    let f : ℕ → List ℕ = λ i. xor_bytes (decrypted_block key (block_of (front ++ piece) i)) (block_of (iv ++ (front ++ piece)) i) in
    let wide : length iv ≡ 16 = omega arith in
    let long : length before ≡ 16 + length front = ap length c.after_block-joined.ensures ∙ length-append iv front ∙ omega (arith, wide) in
    let whole : before ++ piece ≡ iv ++ (front ++ piece) =
    ap (λ l. l ++ piece) c.after_block-joined.ensures ∙ append_assoc iv front piece in
    let each = λ (k : ℕ) (lt : k < m).
    let low : k < 8 = omega (arith, lt, c.min-left.ensures) in
    let within : 16 * (8 * n + k) + 16 ≤ length front + length piece = omega (arith, lt, some, c.min-left.ensures, c.requires.within) in
    let d = c.decipher-decrypted.ensures k lt low
    ∙ (λ t. decrypted_block (c.in_ok-cipher.ensures t)
    (block_at_batch front piece c.batch_at.result n k c.batch_at.ensures low within t)) in
    let b = block_at_batch before piece c.batch_at-in-turns.result n k c.batch_at-in-turns.ensures low (omega (arith, within, long))
    ∙ ap (λ l. block_of l (8 * n + k)) whole in
    c.xor_batches-batch.ensures k low ∙ (λ t. xor_bytes (d t) (b t)) in
    blocks_further f c.args.out.now.items c.turns.out.items c.xor_batches-batch.result c.extend_from_slice.new.self.items n
    c.args.blocks m c.turns.invariant
    c.min-left.ensures some each c.in_ok-extend_from_slice.ensures.items
