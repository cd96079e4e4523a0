use Rattle.aes_slices.specs.Rows.{row_by_row}
use Rattle.aes_planes.proofs.Bits.{IsSliced-picked}
use Rattle.aes_slices.proofs.rows.in_rows.Goals as goal

pub returns : goal.returns
returns c j x is = IsSliced-picked row_by_row c.args.s _ j x record {
  at0 = c.by_row.ensures;
  at1 = c.by_row-2.ensures;
  at2 = c.by_row-3.ensures;
  at3 = c.by_row-4.ensures;
  at4 = c.by_row-5.ensures;
  at5 = c.by_row-6.ensures;
  at6 = c.by_row-7.ensures;
  at7 = c.by_row-8.ensures;
} is
