use Rattle.std.proofs.Common.{◌*◌, ◌<◌, ◌++◌, ap, ◌∙◌, arith}
use Rattle.fips_197.specs.Texts.{block_of}
use Rattle.aes_slices.specs.Decrypt.{decrypted_block}
use Rattle.aes_modes.proofs.BatchTexts.{none_yet, batch_further}
use Rattle.aes_modes.proofs.batches.push_decrypted.Goals as goal

pub turns-init : goal.turns-init
turns-init c = none_yet (λ i. decrypted_block c.args.key.now
    (block_of (c.args.front.now ++ c.args.piece.now) i)) c.args.out.now.items c.args.blocks

pub turns-preserved : goal.turns-preserved
turns-preserved c =
    let some : 8 * c.turns.n < c.args.blocks = omega arith in
    batch_further (decrypted_block c.args.key.now) c.args.front.now c.args.piece.now c.args.out.now.items c.turns.out.items
    c.batch_at.result
    c.decipher-batch.result c.extend_from_slice.new.self.items c.turns.n c.args.blocks c.min-left.result c.turns.invariant
    c.min-left.ensures some
    c.requires.within c.batch_at.ensures
    (λ k lt low. c.decipher-batch.ensures k lt low ∙ ap (λ key. decrypted_block key (block_of c.batch_at.result k)) c.in_ok-cipher.ensures)
    c.in_ok-extend_from_slice.ensures.items
