use Rattle.std.proofs.Common.{sym, ◌∙◌}
use Rattle.fips_197.specs.Bytes.{xor_bytes}
use Rattle.aes_slices.proofs.Batches.{block_in}
use Rattle.aes_slices.proofs.FilledBatches.{xor_eight}
use Rattle.aes_slices.proofs.batch.xor_batches.Goals as goal

pub returns : goal.returns
returns c i lt =
    sym (block_in c.bytes_of.result _ (sym c.bytes_of.ensures) i lt)
    ∙ xor_eight c.eight_at-a.result c.eight_at-b.result i lt
    ∙ (λ t. xor_bytes (block_in c.args.x.now _ c.eight_at-a.ensures i lt t) (block_in c.args.y.now _ c.eight_at-b.ensures i lt t))
