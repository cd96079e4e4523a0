use Rattle.std.proofs.Common.{◌≡◌, ap, ◌∙◌, arith, below_more}
use Rattle.fips_197.specs.Texts.{block_of}
use Rattle.aes_slices.specs.Decrypt.{decrypted_block}
use Rattle.aes_slices.proofs.Batches.{decrypted-only}
use Rattle.aes_slices.proofs.batch_key.BatchKey.decipher.Goals as goal

pub turns-preserved : goal.turns-preserved
turns-preserved c =
    let key = c.self.inside.key in
    let batch = c.args.batch.now in
    let i = c.turns.i in
    let next = c.store.new.text in
    let block = c.block_at.result in
    let block_is = c.decipher-in-turns.ensures.blocks.0 in
    let one = decrypted-only key block c.decipher-in-turns.result c.self.invariant.key block_is c.decipher-in-turns.ensures.only in
    record {
      size = c.store.ensures.size ∙ c.turns.invariant.size;
      so_far = below_more (λ k. block_of next k ≡ decrypted_block c.args.self.now (block_of batch k)) i
          (λ k lt. c.store.ensures.others k (omega (arith, lt)) ∙ c.turns.invariant.so_far k lt)
          (c.store.ensures.here ∙ one ∙ ap (decrypted_block key) c.block_at.ensures
          ∙ ap (λ k. decrypted_block k (block_of batch i)) c.self.view_is);
    }
