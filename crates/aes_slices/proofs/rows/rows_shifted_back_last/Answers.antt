use Rattle.std.proofs.Common.{subst}
use Rattle.aes_planes.specs.Planes.{IsSliced}
use Rattle.aes_slices.specs.Rows.{rows_shifted_back_last, in_rows}
use Rattle.aes_planes.proofs.Bits.{IsSliced-picked}
use Rattle.aes_slices.proofs.InRows.{rows_shifted_back_last-of}
use Rattle.aes_slices.proofs.rows.rows_shifted_back_last.Goals as goal

pub returns : goal.returns
returns c j x block is = subst (IsSliced _ j) (rows_shifted_back_last-of x block.size)
    (IsSliced-picked rows_shifted_back_last c.args.s _ j (in_rows x) record {
      at0 = c.shifted_back_last.ensures;
      at1 = c.shifted_back_last-2.ensures;
      at2 = c.shifted_back_last-3.ensures;
      at3 = c.shifted_back_last-4.ensures;
      at4 = c.shifted_back_last-5.ensures;
      at5 = c.shifted_back_last-6.ensures;
      at6 = c.shifted_back_last-7.ensures;
      at7 = c.shifted_back_last-8.ensures;
    } is)
