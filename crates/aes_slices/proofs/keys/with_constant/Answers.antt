use Rattle.std.proofs.Common.{bit_xor}
use Rattle.std.proofs.lemmas.Simd.{zip2_splat}
use Rattle.aes_planes.specs.Planes.{with_constant}
use Rattle.aes_slices.proofs.keys.with_constant.Goals as goal

pub returns : goal.returns
unfolding with_constant
returns c = zip2_splat bit_xor c.args.x 16 99 c.fits-x.0
