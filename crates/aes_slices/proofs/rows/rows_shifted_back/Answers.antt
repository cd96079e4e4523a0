use Rattle.std.proofs.Common.{subst}
use Rattle.aes_planes.specs.Planes.{IsSliced}
use Rattle.aes_slices.specs.Rows.{plane_rows_shifted_back, in_rows}
use Rattle.aes_planes.proofs.Bits.{IsSliced-picked}
use Rattle.aes_slices.proofs.InRows.{rows_shifted_back-of}
use Rattle.aes_slices.proofs.rows.rows_shifted_back.Goals as goal

pub returns : goal.returns
returns c j x block is = subst (IsSliced _ j) (rows_shifted_back-of x block.size)
    (IsSliced-picked plane_rows_shifted_back c.args.s _ j (in_rows x) record {
      at0 = c.shifted_back.ensures;
      at1 = c.shifted_back-2.ensures;
      at2 = c.shifted_back-3.ensures;
      at3 = c.shifted_back-4.ensures;
      at4 = c.shifted_back-5.ensures;
      at5 = c.shifted_back-6.ensures;
      at6 = c.shifted_back-7.ensures;
      at7 = c.shifted_back-8.ensures;
    } is)
