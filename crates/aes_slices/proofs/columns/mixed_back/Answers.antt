use Rattle.std.proofs.Common.{map, refl, subst}
use Rattle.fips_197.specs.Bytes.{IsBlock, xor_bytes}
use Rattle.fips_197.specs.Field.{product}
use Rattle.fips_197.proofs.Blocks.{IsBlock-xor_bytes}
use Rattle.aes_vector.specs.Rows.{pick}
use Rattle.aes_planes.specs.Planes.{IsSliced}
use Rattle.aes_slices.specs.Rows.{plane_rows_next, rows_after_next, in_rows}
use Rattle.aes_slices.proofs.InRows.{IsBlock-in_rows}
use Rattle.aes_slices.proofs.MadeBlocks.{IsBlock-pick, IsBlock-doubled}
use Rattle.aes_slices.proofs.MixedColumns.{mixed_back-of}
use Rattle.aes_slices.proofs.columns.mixed_back.Goals as goal

pub returns : goal.returns
returns c j z inside is =
    let x = in_rows z in
    let block = IsBlock-in_rows z inside in
    let n = pick plane_rows_next x in
    let t = xor_bytes x n in
    let t2 = map (product 2) t in
    let l = xor_bytes t2 x in
    let l2 = map (product 2) l in
    let l4 = map (product 2) l2 in
    let h = xor_bytes l4 t in
    let t_is : IsBlock t = IsBlock-xor_bytes x n block (IsBlock-pick plane_rows_next x refl block) in
    let l_is : IsBlock l = IsBlock-xor_bytes t2 x (IsBlock-doubled t t_is) block in
    let l2_is : IsBlock l2 = IsBlock-doubled l l_is in
    let sum = c.added-sum.ensures j x n is (c.next_rows.ensures j x is) in
    let light = c.added-light.ensures j t2 x (c.doubled.ensures j t t_is.bytes sum) is in
    let four = c.doubled-3.ensures j l2 l2_is.bytes (c.doubled-2.ensures j l l_is.bytes light) in
    let heavy = c.added-heavy.ensures j l4 t four sum in
    let both = c.added.ensures j h (pick rows_after_next h) heavy (c.rows_after_next.ensures j h heavy) in
    subst (IsSliced c.added-2.result j) (mixed_back-of z inside)
    (c.added-2.ensures j (xor_bytes h (pick rows_after_next h)) l both light)
