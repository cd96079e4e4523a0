use Rattle.streams_model.proofs.EcbLaw.{ecb_begun_back}
use Rattle.streams_model.proofs.Pieces.{begun_kept}
use Rattle.streams.proofs.ecb_decryption.EcbDecryption.new.Goals as goal

pub invariant_of-result : goal.invariant_of-result
invariant_of-result c = record {
  given = ecb_begun_back c.args.key _ _ c.new.ensures.taken c.new.ensures.given c.size-size.ensures.key;
  kept = begun_kept _ _ c.new.ensures.kept c.new.ensures.taken;
}
