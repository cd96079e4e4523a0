use Rattle.std.proofs.Common.{bit_xor}
use Rattle.std.proofs.lemmas.Simd.{zip2_of_maps}
use Rattle.aes_vector.specs.Halves.{look, upper, lower}
use Rattle.aes_vector.proofs.Places.{then_look}
use Rattle.aes_vector.proofs.halves.by_halves.Goals as goal

pub returns : goal.returns
returns c x eu el =
    zip2_of_maps bit_xor (λ b. look c.args.above (upper b)) (λ b. look c.args.below (lower b)) x
    (then_look c.args.above upper x _ _ eu c.look.ensures) (then_look c.args.below lower x _ _ el c.look-2.ensures)
