use Rattle.std.proofs.Common.{refl, bit_xor}
use Rattle.std.proofs.lemmas.Simd.{zip2_of_maps}
use Rattle.aes_vector.specs.Halves.{low, high, look}
use Rattle.aes_vector.proofs.Places.{places, then_look}
use Rattle.aes_vector.proofs.halves.in_tables.Goals as goal

pub look-requires : goal.look-requires
look-requires c = rw (← c.low.ensures) at (places low refl c.args.x c.fits-x.1)

pub look-requires-2 : goal.look-requires-2
look-requires-2 c = rw (← c.high.ensures) at (places high refl c.args.x c.fits-x.1)

pub returns : goal.returns
returns c =
    let v = c.args.x in
    zip2_of_maps bit_xor (λ b. look c.args.lows (low b)) (λ b. look c.args.highs (high b)) v
    (then_look c.args.lows low v _ _ c.low.ensures c.look.ensures) (then_look c.args.highs high v _ _ c.high.ensures c.look-2.ensures)
