use Rattle.std.proofs.Common.{◌≡◌, ℕ, T, List, map, bit_xor, refl}
use Rattle.std.proofs.lemmas.Simd.{zip2_of_maps}
use lib.Lanes.{Each1}
use Rattle.aes_vector.specs.Halves.{is_place, look, low, high, both, upper_place, lower_place, upper, lower}
use Rattle.aes_vector.specs.declared.tables.TheConstants.{INVERSE, INVERSE_TIMES_A}
use Rattle.aes_vector.proofs.Places.{places, then_look}
use Rattle.aes_vector.proofs.halves.inverted.Goals as goal

placed : (g : ℕ → ℕ) (v xs : List ℕ) → xs ≡ map g v → Each1 (λ j. T (is_place j)) (map g v) → Each1 (λ j. T (is_place j)) xs
placed g v xs e h = rw (← e) at h

pub look-term-requires : goal.look-term-requires
look-term-requires c = placed low c.args.x _ c.low-low.ensures (places low refl c.args.x c.fits-x.1)

pub look-requires : goal.look-requires
look-requires c = placed high c.args.x _ c.high-high.ensures (places high refl c.args.x c.fits-x.1)

pub look-requires-2 : goal.look-requires-2
look-requires-2 c =
    placed both c.args.x _ (zip2_of_maps bit_xor high low c.args.x c.high-high.ensures c.low-low.ensures)
    (places both refl c.args.x c.fits-x.1)

pub look-requires-3 : goal.look-requires-3
look-requires-3 c =
    let v = c.args.x in
    let ak = then_look INVERSE_TIMES_A low v _ _ c.low-low.ensures c.look-term.ensures in
    let i = then_look INVERSE high v _ _ c.high-high.ensures c.look.ensures in
    placed upper_place v _ (zip2_of_maps bit_xor (λ b. look INVERSE (high b)) (λ b. look INVERSE_TIMES_A (low b)) v i ak)
    (places upper_place refl v c.fits-x.1)

pub look-requires-4 : goal.look-requires-4
look-requires-4 c =
    let v = c.args.x in
    let ak = then_look INVERSE_TIMES_A low v _ _ c.low-low.ensures c.look-term.ensures in
    let both_are = zip2_of_maps bit_xor high low v c.high-high.ensures c.low-low.ensures in
    let j = then_look INVERSE both v _ _ both_are c.look-2.ensures in
    placed lower_place v _ (zip2_of_maps bit_xor (λ b. look INVERSE (both b)) (λ b. look INVERSE_TIMES_A (low b)) v j ak)
    (places lower_place refl v c.fits-x.1)

pub returns-clause-upper : goal.returns-clause-upper
returns-clause-upper c =
    let v = c.args.x in
    let ak = then_look INVERSE_TIMES_A low v _ _ c.low-low.ensures c.look-term.ensures in
    let i = then_look INVERSE high v _ _ c.high-high.ensures c.look.ensures in
    let place = zip2_of_maps bit_xor (λ b. look INVERSE (high b)) (λ b. look INVERSE_TIMES_A (low b)) v i ak in
    let both_are = zip2_of_maps bit_xor high low v c.high-high.ensures c.low-low.ensures in
    zip2_of_maps bit_xor (λ b. look INVERSE (upper_place b)) both v (then_look INVERSE upper_place v _ _ place c.look-3.ensures) both_are

pub returns-clause-lower : goal.returns-clause-lower
returns-clause-lower c =
    let v = c.args.x in
    let ak = then_look INVERSE_TIMES_A low v _ _ c.low-low.ensures c.look-term.ensures in
    let both_are = zip2_of_maps bit_xor high low v c.high-high.ensures c.low-low.ensures in
    let j = then_look INVERSE both v _ _ both_are c.look-2.ensures in
    let place = zip2_of_maps bit_xor (λ b. look INVERSE (both b)) (λ b. look INVERSE_TIMES_A (low b)) v j ak in
    zip2_of_maps bit_xor (λ b. look INVERSE (lower_place b)) high v
    (then_look INVERSE lower_place v _ _ place c.look-4.ensures) c.high-high.ensures

pub returns-clause-places : goal.returns-clause-places
returns-clause-places c = (
  placed upper c.args.x _ (returns-clause-upper c) (places upper refl c.args.x c.fits-x.1),
  placed lower c.args.x _ (returns-clause-lower c) (places lower refl c.args.x c.fits-x.1),
)
