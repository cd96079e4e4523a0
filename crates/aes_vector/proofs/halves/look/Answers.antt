use Rattle.aes_vector.proofs.Places.{may_look, looked_up}
use Rattle.aes_vector.proofs.halves.look.Goals as goal

pub swizzle : goal.swizzle
swizzle c = may_look c.args.at c.fits-at.0 c.requires

pub returns : goal.returns
returns c = looked_up c.args.table c.args.at c.fits-at.0
