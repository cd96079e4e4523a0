use Rattle.std.proofs.Common.{refl, lit≤}
use Rattle.macs.proofs.CmacLaw.{begun_chain, begun_last, begun_size}
use Rattle.macs.proofs.cmac_stream.CmacStream.new.Goals as goal

pub invariant_of-result : goal.invariant_of-result
invariant_of-result c = record {
  chain = begun_chain c.args.key _ _ refl c.new.ensures;
  last = begun_last _ _ refl c.new.ensures;
  size = begun_size _ c.new.ensures;
  fits = lit≤ tt;
}
