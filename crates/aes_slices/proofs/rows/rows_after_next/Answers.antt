use Rattle.aes_slices.specs.Rows.{rows_after_next}
use Rattle.aes_planes.proofs.Bits.{IsSliced-picked}
use Rattle.aes_slices.proofs.rows.rows_after_next.Goals as goal

pub returns : goal.returns
returns c j x is = IsSliced-picked rows_after_next c.args.s _ j x record {
  at0 = c.row_after_next.ensures;
  at1 = c.row_after_next-2.ensures;
  at2 = c.row_after_next-3.ensures;
  at3 = c.row_after_next-4.ensures;
  at4 = c.row_after_next-5.ensures;
  at5 = c.row_after_next-6.ensures;
  at6 = c.row_after_next-7.ensures;
  at7 = c.row_after_next-8.ensures;
} is
