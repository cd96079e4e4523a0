use Rattle.std.proofs.Common.{bit_xor}
use Rattle.std.proofs.lemmas.Simd.{zip2_splat}
use Rattle.aes_vector.proofs.halves.with_constant.Goals as goal

pub returns : goal.returns
returns c = zip2_splat bit_xor c.args.x 16 99 c.fits-x.0
