use Rattle.streams_model.proofs.EcbLaw.{ecb_begun}
use Rattle.streams_model.proofs.Pieces.{begun_kept}
use Rattle.streams.proofs.ecb_encryption.EcbEncryption.new.Goals as goal

pub invariant_of-result : goal.invariant_of-result
invariant_of-result c = record {
  given = ecb_begun c.args.key _ _ c.new.ensures.taken c.new.ensures.given;
  kept = begun_kept _ _ c.new.ensures.kept c.new.ensures.taken;
}
