use Rattle.std.proofs.Common.{refl, ◌∙◌, arith}
use Rattle.fips_197.specs.Field.{bit}
use Rattle.aes_planes.specs.declared.planes.Eight.{Eight}
use Rattle.aes_planes.specs.Planes.{vector_of, IsSliced}
use Rattle.aes_planes.proofs.Bits.{each_of_eight}
use Rattle.aes_slices.proofs.transposition.transposed.Goals as goal

pub returns : goal.returns
unfolding bit vector_of
returns c =
    let r : Eight = record {
      v0 = c.swapped-9.result.0;
      v1 = c.swapped-10.result.0;
      v2 = c.swapped-11.result.0;
      v3 = c.swapped-12.result.0;
      v4 = c.swapped-9.result.1;
      v5 = c.swapped-10.result.1;
      v6 = c.swapped-11.result.1;
      v7 = c.swapped-12.result.1;
    } in
    let block0 : IsSliced r 0 (vector_of c.args.s 0) = record {
      bit0 = c.swapped-9.ensures.first 0 (omega arith) refl ∙ c.swapped-5.ensures.first 0 (omega arith) refl
          ∙ c.swapped.ensures.first 0 (omega arith) refl;
      bit1 = c.swapped-10.ensures.first 0 (omega arith) refl ∙ c.swapped-6.ensures.first 0 (omega arith) refl
          ∙ (c.swapped.ensures.moved 0 (omega arith) refl).1;
      bit2 = c.swapped-11.ensures.first 0 (omega arith) refl ∙ (c.swapped-5.ensures.moved 0 (omega arith) refl).1
          ∙ c.swapped.ensures.first 2 (omega arith) refl;
      bit3 = c.swapped-12.ensures.first 0 (omega arith) refl ∙ (c.swapped-6.ensures.moved 0 (omega arith) refl).1
          ∙ (c.swapped.ensures.moved 2 (omega arith) refl).1;
      bit4 = (c.swapped-9.ensures.moved 0 (omega arith) refl).1 ∙ c.swapped-5.ensures.first 4 (omega arith) refl
          ∙ c.swapped.ensures.first 4 (omega arith) refl;
      bit5 = (c.swapped-10.ensures.moved 0 (omega arith) refl).1 ∙ c.swapped-6.ensures.first 4 (omega arith) refl
          ∙ (c.swapped.ensures.moved 4 (omega arith) refl).1;
      bit6 = (c.swapped-11.ensures.moved 0 (omega arith) refl).1 ∙ (c.swapped-5.ensures.moved 4 (omega arith) refl).1
          ∙ c.swapped.ensures.first 6 (omega arith) refl;
      bit7 = (c.swapped-12.ensures.moved 0 (omega arith) refl).1 ∙ (c.swapped-6.ensures.moved 4 (omega arith) refl).1
          ∙ (c.swapped.ensures.moved 6 (omega arith) refl).1;
    } in
    let block1 : IsSliced r 1 (vector_of c.args.s 1) = record {
      bit0 = c.swapped-9.ensures.first 1 (omega arith) refl ∙ c.swapped-5.ensures.first 1 (omega arith) refl
          ∙ (c.swapped.ensures.moved 0 (omega arith) refl).0;
      bit1 = c.swapped-10.ensures.first 1 (omega arith) refl ∙ c.swapped-6.ensures.first 1 (omega arith) refl
          ∙ c.swapped.ensures.second 1 refl;
      bit2 = c.swapped-11.ensures.first 1 (omega arith) refl ∙ (c.swapped-5.ensures.moved 1 (omega arith) refl).1
          ∙ (c.swapped.ensures.moved 2 (omega arith) refl).0;
      bit3 = c.swapped-12.ensures.first 1 (omega arith) refl ∙ (c.swapped-6.ensures.moved 1 (omega arith) refl).1
          ∙ c.swapped.ensures.second 3 refl;
      bit4 = (c.swapped-9.ensures.moved 1 (omega arith) refl).1 ∙ c.swapped-5.ensures.first 5 (omega arith) refl
          ∙ (c.swapped.ensures.moved 4 (omega arith) refl).0;
      bit5 = (c.swapped-10.ensures.moved 1 (omega arith) refl).1 ∙ c.swapped-6.ensures.first 5 (omega arith) refl
          ∙ c.swapped.ensures.second 5 refl;
      bit6 = (c.swapped-11.ensures.moved 1 (omega arith) refl).1 ∙ (c.swapped-5.ensures.moved 5 (omega arith) refl).1
          ∙ (c.swapped.ensures.moved 6 (omega arith) refl).0;
      bit7 = (c.swapped-12.ensures.moved 1 (omega arith) refl).1 ∙ (c.swapped-6.ensures.moved 5 (omega arith) refl).1
          ∙ c.swapped.ensures.second 7 refl;
    } in
    let block2 : IsSliced r 2 (vector_of c.args.s 2) = record {
      bit0 = c.swapped-9.ensures.first 2 (omega arith) refl ∙ (c.swapped-5.ensures.moved 0 (omega arith) refl).0
          ∙ c.swapped-2.ensures.first 0 (omega arith) refl;
      bit1 = c.swapped-10.ensures.first 2 (omega arith) refl ∙ (c.swapped-6.ensures.moved 0 (omega arith) refl).0
          ∙ (c.swapped-2.ensures.moved 0 (omega arith) refl).1;
      bit2 = c.swapped-11.ensures.first 2 (omega arith) refl ∙ c.swapped-5.ensures.second 2 refl
          ∙ c.swapped-2.ensures.first 2 (omega arith) refl;
      bit3 = c.swapped-12.ensures.first 2 (omega arith) refl ∙ c.swapped-6.ensures.second 2 refl
          ∙ (c.swapped-2.ensures.moved 2 (omega arith) refl).1;
      bit4 = (c.swapped-9.ensures.moved 2 (omega arith) refl).1 ∙ (c.swapped-5.ensures.moved 4 (omega arith) refl).0
          ∙ c.swapped-2.ensures.first 4 (omega arith) refl;
      bit5 = (c.swapped-10.ensures.moved 2 (omega arith) refl).1 ∙ (c.swapped-6.ensures.moved 4 (omega arith) refl).0
          ∙ (c.swapped-2.ensures.moved 4 (omega arith) refl).1;
      bit6 = (c.swapped-11.ensures.moved 2 (omega arith) refl).1 ∙ c.swapped-5.ensures.second 6 refl
          ∙ c.swapped-2.ensures.first 6 (omega arith) refl;
      bit7 = (c.swapped-12.ensures.moved 2 (omega arith) refl).1 ∙ c.swapped-6.ensures.second 6 refl
          ∙ (c.swapped-2.ensures.moved 6 (omega arith) refl).1;
    } in
    let block3 : IsSliced r 3 (vector_of c.args.s 3) = record {
      bit0 = c.swapped-9.ensures.first 3 (omega arith) refl ∙ (c.swapped-5.ensures.moved 1 (omega arith) refl).0
          ∙ (c.swapped-2.ensures.moved 0 (omega arith) refl).0;
      bit1 = c.swapped-10.ensures.first 3 (omega arith) refl ∙ (c.swapped-6.ensures.moved 1 (omega arith) refl).0
          ∙ c.swapped-2.ensures.second 1 refl;
      bit2 = c.swapped-11.ensures.first 3 (omega arith) refl ∙ c.swapped-5.ensures.second 3 refl
          ∙ (c.swapped-2.ensures.moved 2 (omega arith) refl).0;
      bit3 = c.swapped-12.ensures.first 3 (omega arith) refl ∙ c.swapped-6.ensures.second 3 refl ∙ c.swapped-2.ensures.second 3 refl;
      bit4 = (c.swapped-9.ensures.moved 3 (omega arith) refl).1 ∙ (c.swapped-5.ensures.moved 5 (omega arith) refl).0
          ∙ (c.swapped-2.ensures.moved 4 (omega arith) refl).0;
      bit5 = (c.swapped-10.ensures.moved 3 (omega arith) refl).1 ∙ (c.swapped-6.ensures.moved 5 (omega arith) refl).0
          ∙ c.swapped-2.ensures.second 5 refl;
      bit6 = (c.swapped-11.ensures.moved 3 (omega arith) refl).1 ∙ c.swapped-5.ensures.second 7 refl
          ∙ (c.swapped-2.ensures.moved 6 (omega arith) refl).0;
      bit7 = (c.swapped-12.ensures.moved 3 (omega arith) refl).1 ∙ c.swapped-6.ensures.second 7 refl ∙ c.swapped-2.ensures.second 7 refl;
    } in
    let block4 : IsSliced r 4 (vector_of c.args.s 4) = record {
      bit0 = (c.swapped-9.ensures.moved 0 (omega arith) refl).0 ∙ c.swapped-7.ensures.first 0 (omega arith) refl
          ∙ c.swapped-3.ensures.first 0 (omega arith) refl;
      bit1 = (c.swapped-10.ensures.moved 0 (omega arith) refl).0 ∙ c.swapped-8.ensures.first 0 (omega arith) refl
          ∙ (c.swapped-3.ensures.moved 0 (omega arith) refl).1;
      bit2 = (c.swapped-11.ensures.moved 0 (omega arith) refl).0 ∙ (c.swapped-7.ensures.moved 0 (omega arith) refl).1
          ∙ c.swapped-3.ensures.first 2 (omega arith) refl;
      bit3 = (c.swapped-12.ensures.moved 0 (omega arith) refl).0 ∙ (c.swapped-8.ensures.moved 0 (omega arith) refl).1
          ∙ (c.swapped-3.ensures.moved 2 (omega arith) refl).1;
      bit4 = c.swapped-9.ensures.second 4 refl ∙ c.swapped-7.ensures.first 4 (omega arith) refl
          ∙ c.swapped-3.ensures.first 4 (omega arith) refl;
      bit5 = c.swapped-10.ensures.second 4 refl ∙ c.swapped-8.ensures.first 4 (omega arith) refl
          ∙ (c.swapped-3.ensures.moved 4 (omega arith) refl).1;
      bit6 = c.swapped-11.ensures.second 4 refl ∙ (c.swapped-7.ensures.moved 4 (omega arith) refl).1
          ∙ c.swapped-3.ensures.first 6 (omega arith) refl;
      bit7 = c.swapped-12.ensures.second 4 refl ∙ (c.swapped-8.ensures.moved 4 (omega arith) refl).1
          ∙ (c.swapped-3.ensures.moved 6 (omega arith) refl).1;
    } in
    let block5 : IsSliced r 5 (vector_of c.args.s 5) = record {
      bit0 = (c.swapped-9.ensures.moved 1 (omega arith) refl).0 ∙ c.swapped-7.ensures.first 1 (omega arith) refl
          ∙ (c.swapped-3.ensures.moved 0 (omega arith) refl).0;
      bit1 = (c.swapped-10.ensures.moved 1 (omega arith) refl).0 ∙ c.swapped-8.ensures.first 1 (omega arith) refl
          ∙ c.swapped-3.ensures.second 1 refl;
      bit2 = (c.swapped-11.ensures.moved 1 (omega arith) refl).0 ∙ (c.swapped-7.ensures.moved 1 (omega arith) refl).1
          ∙ (c.swapped-3.ensures.moved 2 (omega arith) refl).0;
      bit3 = (c.swapped-12.ensures.moved 1 (omega arith) refl).0 ∙ (c.swapped-8.ensures.moved 1 (omega arith) refl).1
          ∙ c.swapped-3.ensures.second 3 refl;
      bit4 = c.swapped-9.ensures.second 5 refl ∙ c.swapped-7.ensures.first 5 (omega arith) refl
          ∙ (c.swapped-3.ensures.moved 4 (omega arith) refl).0;
      bit5 = c.swapped-10.ensures.second 5 refl ∙ c.swapped-8.ensures.first 5 (omega arith) refl ∙ c.swapped-3.ensures.second 5 refl;
      bit6 = c.swapped-11.ensures.second 5 refl ∙ (c.swapped-7.ensures.moved 5 (omega arith) refl).1
          ∙ (c.swapped-3.ensures.moved 6 (omega arith) refl).0;
      bit7 = c.swapped-12.ensures.second 5 refl ∙ (c.swapped-8.ensures.moved 5 (omega arith) refl).1 ∙ c.swapped-3.ensures.second 7 refl;
    } in
    let block6 : IsSliced r 6 (vector_of c.args.s 6) = record {
      bit0 = (c.swapped-9.ensures.moved 2 (omega arith) refl).0 ∙ (c.swapped-7.ensures.moved 0 (omega arith) refl).0
          ∙ c.swapped-4.ensures.first 0 (omega arith) refl;
      bit1 = (c.swapped-10.ensures.moved 2 (omega arith) refl).0 ∙ (c.swapped-8.ensures.moved 0 (omega arith) refl).0
          ∙ (c.swapped-4.ensures.moved 0 (omega arith) refl).1;
      bit2 = (c.swapped-11.ensures.moved 2 (omega arith) refl).0 ∙ c.swapped-7.ensures.second 2 refl
          ∙ c.swapped-4.ensures.first 2 (omega arith) refl;
      bit3 = (c.swapped-12.ensures.moved 2 (omega arith) refl).0 ∙ c.swapped-8.ensures.second 2 refl
          ∙ (c.swapped-4.ensures.moved 2 (omega arith) refl).1;
      bit4 = c.swapped-9.ensures.second 6 refl ∙ (c.swapped-7.ensures.moved 4 (omega arith) refl).0
          ∙ c.swapped-4.ensures.first 4 (omega arith) refl;
      bit5 = c.swapped-10.ensures.second 6 refl ∙ (c.swapped-8.ensures.moved 4 (omega arith) refl).0
          ∙ (c.swapped-4.ensures.moved 4 (omega arith) refl).1;
      bit6 = c.swapped-11.ensures.second 6 refl ∙ c.swapped-7.ensures.second 6 refl ∙ c.swapped-4.ensures.first 6 (omega arith) refl;
      bit7 = c.swapped-12.ensures.second 6 refl ∙ c.swapped-8.ensures.second 6 refl ∙ (c.swapped-4.ensures.moved 6 (omega arith) refl).1;
    } in
    let block7 : IsSliced r 7 (vector_of c.args.s 7) = record {
      bit0 = (c.swapped-9.ensures.moved 3 (omega arith) refl).0 ∙ (c.swapped-7.ensures.moved 1 (omega arith) refl).0
          ∙ (c.swapped-4.ensures.moved 0 (omega arith) refl).0;
      bit1 = (c.swapped-10.ensures.moved 3 (omega arith) refl).0 ∙ (c.swapped-8.ensures.moved 1 (omega arith) refl).0
          ∙ c.swapped-4.ensures.second 1 refl;
      bit2 = (c.swapped-11.ensures.moved 3 (omega arith) refl).0 ∙ c.swapped-7.ensures.second 3 refl
          ∙ (c.swapped-4.ensures.moved 2 (omega arith) refl).0;
      bit3 = (c.swapped-12.ensures.moved 3 (omega arith) refl).0 ∙ c.swapped-8.ensures.second 3 refl ∙ c.swapped-4.ensures.second 3 refl;
      bit4 = c.swapped-9.ensures.second 7 refl ∙ (c.swapped-7.ensures.moved 5 (omega arith) refl).0
          ∙ (c.swapped-4.ensures.moved 4 (omega arith) refl).0;
      bit5 = c.swapped-10.ensures.second 7 refl ∙ (c.swapped-8.ensures.moved 5 (omega arith) refl).0 ∙ c.swapped-4.ensures.second 5 refl;
      bit6 = c.swapped-11.ensures.second 7 refl ∙ c.swapped-7.ensures.second 7 refl ∙ (c.swapped-4.ensures.moved 6 (omega arith) refl).0;
      bit7 = c.swapped-12.ensures.second 7 refl ∙ c.swapped-8.ensures.second 7 refl ∙ c.swapped-4.ensures.second 7 refl;
    } in
    each_of_eight (λ j. IsSliced r j (vector_of c.args.s j)) block0 block1 block2 block3 block4 block5 block6 block7
