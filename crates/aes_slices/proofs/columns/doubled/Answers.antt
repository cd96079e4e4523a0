use Rattle.std.proofs.Common.{refl}
use Rattle.fips_197.specs.Field.{bit, terms_product, remainder, product}
use Rattle.fips_197.specs.SBox.{from_bits}
use Rattle.aes_planes.proofs.TruthTables.{bit0_table, bit1_table, bit2_table, bit3_table, bit4_table, bit5_table, bit6_table, bit7_table, begun, with_xor, ended}
use Rattle.aes_slices.proofs.columns.doubled.Goals as goal

pub returns : goal.returns
unfolding bit from_bits terms_product remainder product
returns c j x bytes is =
    let p0 = begun 0 bit0_table refl bytes is.bit0 in
    let p1 = begun 1 bit1_table refl bytes is.bit1 in
    let p2 = begun 2 bit2_table refl bytes is.bit2 in
    let p3 = begun 3 bit3_table refl bytes is.bit3 in
    let p4 = begun 4 bit4_table refl bytes is.bit4 in
    let p5 = begun 5 bit5_table refl bytes is.bit5 in
    let p6 = begun 6 bit6_table refl bytes is.bit6 in
    let p7 = begun 7 bit7_table refl bytes is.bit7 in
    record {
      bit0 = ended (product 2) 0 bytes p7 refl;
      bit1 = ended (product 2) 1 bytes (with_xor p0 p7) refl;
      bit2 = ended (product 2) 2 bytes p1 refl;
      bit3 = ended (product 2) 3 bytes (with_xor p2 p7) refl;
      bit4 = ended (product 2) 4 bytes (with_xor p3 p7) refl;
      bit5 = ended (product 2) 5 bytes p4 refl;
      bit6 = ended (product 2) 6 bytes p5 refl;
      bit7 = ended (product 2) 7 bytes p6 refl;
    }
