use Rattle.aes_slices.specs.Rows.{plane_rows_next}
use Rattle.aes_planes.proofs.Bits.{IsSliced-picked}
use Rattle.aes_slices.proofs.rows.next_rows.Goals as goal

pub returns : goal.returns
returns c j x is = IsSliced-picked plane_rows_next c.args.s _ j x record {
  at0 = c.next_row.ensures;
  at1 = c.next_row-2.ensures;
  at2 = c.next_row-3.ensures;
  at3 = c.next_row-4.ensures;
  at4 = c.next_row-5.ensures;
  at5 = c.next_row-6.ensures;
  at6 = c.next_row-7.ensures;
  at7 = c.next_row-8.ensures;
} is
