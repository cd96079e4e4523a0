use Rattle.std.proofs.Common.{subst}
use Rattle.aes_planes.specs.Planes.{IsSliced}
use Rattle.aes_slices.specs.Rows.{plane_rows_shifted, in_rows}
use Rattle.aes_planes.proofs.Bits.{IsSliced-picked}
use Rattle.aes_slices.proofs.InRows.{rows_shifted-of}
use Rattle.aes_slices.proofs.rows.rows_shifted.Goals as goal

pub returns : goal.returns
returns c j x block is = subst (IsSliced _ j) (rows_shifted-of x block.size) (IsSliced-picked plane_rows_shifted c.args.s _ j (in_rows x) record {
  at0 = c.shifted.ensures;
  at1 = c.shifted-2.ensures;
  at2 = c.shifted-3.ensures;
  at3 = c.shifted-4.ensures;
  at4 = c.shifted-5.ensures;
  at5 = c.shifted-6.ensures;
  at6 = c.shifted-7.ensures;
  at7 = c.shifted-8.ensures;
} is)
