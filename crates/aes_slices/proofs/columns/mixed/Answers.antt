use Rattle.std.proofs.Common.{map, refl, subst}
use Rattle.fips_197.specs.Bytes.{IsBlock, xor_bytes}
use Rattle.fips_197.specs.Field.{product}
use Rattle.fips_197.proofs.Blocks.{IsBlock-xor_bytes}
use Rattle.aes_vector.specs.Rows.{pick}
use Rattle.aes_planes.specs.Planes.{IsSliced}
use Rattle.aes_slices.specs.Rows.{plane_rows_next, rows_after_next, in_rows}
use Rattle.aes_slices.proofs.InRows.{IsBlock-in_rows}
use Rattle.aes_slices.proofs.MadeBlocks.{IsBlock-pick}
use Rattle.aes_slices.proofs.MixedColumns.{mixed-of}
use Rattle.aes_slices.proofs.columns.mixed.Goals as goal

pub returns : goal.returns
returns c j z inside is =
    let x = in_rows z in
    let block = IsBlock-in_rows z inside in
    let n = pick plane_rows_next x in
    let t = xor_bytes x n in
    let sum_is : IsBlock t = IsBlock-xor_bytes x n block (IsBlock-pick plane_rows_next x refl block) in
    let next = c.next_rows-next.ensures j x is in
    let sum = c.added-sum.ensures j x n is next in
    let twice = c.doubled.ensures j t sum_is.bytes sum in
    let both = c.added.ensures j n (map (product 2) t) next twice in
    subst (IsSliced c.added-2.result j) (mixed-of z inside)
    (c.added-2.ensures j (xor_bytes n (map (product 2) t)) (pick rows_after_next t) both (c.rows_after_next.ensures j t sum))
