-- The inverse circuit is the inverse S-box.
use Rattle.std.proofs.Common.{ℕ, List, bit_xor, refl}
use Rattle.fips_197.specs.Bytes.{AreBytes}
use Rattle.fips_197.specs.Field.{bit, terms_product, remainder, product, inverse_below, inverse}
use Rattle.fips_197.specs.SBox.{from_bits, inverse_affine, inverse_s_box}
use Rattle.fips_197.specs.InverseCipher.{inverse_substitute_bytes}
use Rattle.aes_planes.specs.Planes.{IsSliced, with_constant}
use Rattle.aes_planes.specs.InverseCircuit.{sums_back, norm_back, norm_inverse_back, products_back, output_back, circuit_back}
use Rattle.aes_planes.specs.declared.planes.Eight.{Eight}
use Rattle.aes_planes.proofs.TruthTables.{bit2_table, bit3_table, bit4_table, bit7_table, begun_at, with_xor, with_and, ended}

abbrev offset : ℕ → ℕ
offset b = bit_xor b 0x63

-- the truth tables of the bits that 0x63 changes
abbrev not_bit0_table : ℕ
not_bit0_table = 0x5555555555555555555555555555555555555555555555555555555555555555

abbrev not_bit1_table : ℕ
not_bit1_table = 0x3333333333333333333333333333333333333333333333333333333333333333

abbrev not_bit5_table : ℕ
not_bit5_table = 0x00000000FFFFFFFF00000000FFFFFFFF00000000FFFFFFFF00000000FFFFFFFF

abbrev not_bit6_table : ℕ
not_bit6_table = 0x0000000000000000FFFFFFFFFFFFFFFF0000000000000000FFFFFFFFFFFFFFFF

pub IsSliced-circuit_back : (s : Eight) (j : ℕ) (x : List ℕ) → AreBytes x → IsSliced s j (with_constant x)
    → IsSliced (circuit_back s) j (inverse_substitute_bytes x)
unfolding circuit_back sums_back norm_back norm_inverse_back products_back output_back with_constant inverse_substitute_bytes bit
    terms_product remainder product inverse_below inverse from_bits inverse_affine inverse_s_box
IsSliced-circuit_back s j x bytes is =
    let u0 = begun_at offset 7 bit7_table refl bytes is.bit7 in
    let u1 = begun_at offset 6 not_bit6_table refl bytes is.bit6 in
    let u2 = begun_at offset 5 not_bit5_table refl bytes is.bit5 in
    let u3 = begun_at offset 4 bit4_table refl bytes is.bit4 in
    let u4 = begun_at offset 3 bit3_table refl bytes is.bit3 in
    let u5 = begun_at offset 2 bit2_table refl bytes is.bit2 in
    let u6 = begun_at offset 1 not_bit1_table refl bytes is.bit1 in
    let u7 = begun_at offset 0 not_bit0_table refl bytes is.bit0 in
    let t23 = with_xor u0 u3 in
    let t22 = with_xor u1 u3 in
    let t2 = with_xor u0 u1 in
    let t1 = with_xor u3 u4 in
    let t24 = with_xor u4 u7 in
    let r5 = with_xor u6 u7 in
    let t8 = with_xor u1 t23 in
    let t19 = with_xor t22 r5 in
    let t9 = with_xor u7 t1 in
    let t10 = with_xor t2 t24 in
    let t13 = with_xor t2 r5 in
    let t3 = with_xor t1 r5 in
    let t25 = with_xor u2 t1 in
    let r13 = with_xor u1 u6 in
    let t17 = with_xor u2 t19 in
    let t20 = with_xor t24 r13 in
    let t4 = with_xor u4 t8 in
    let r17 = with_xor u2 u5 in
    let r18 = with_xor u5 u6 in
    let r19 = with_xor u2 u4 in
    let y5 = with_xor u0 r17 in
    let t6 = with_xor t22 r17 in
    let t16 = with_xor r13 r19 in
    let t27 = with_xor t1 r18 in
    let t15 = with_xor t10 t27 in
    let t14 = with_xor t10 r18 in
    let t26 = with_xor t3 t16 in
    let m1 = with_and t13 t6 in
    let m2 = with_and t23 t8 in
    let m3 = with_xor t14 m1 in
    let m4 = with_and t19 y5 in
    let m5 = with_xor m4 m1 in
    let m6 = with_and t3 t16 in
    let m7 = with_and t22 t9 in
    let m8 = with_xor t26 m6 in
    let m9 = with_and t20 t17 in
    let m10 = with_xor m9 m6 in
    let m11 = with_and t1 t15 in
    let m12 = with_and t4 t27 in
    let m13 = with_xor m12 m11 in
    let m14 = with_and t2 t10 in
    let m15 = with_xor m14 m11 in
    let m16 = with_xor m3 m2 in
    let m17 = with_xor m5 t24 in
    let m18 = with_xor m8 m7 in
    let m19 = with_xor m10 m15 in
    let m20 = with_xor m16 m13 in
    let m21 = with_xor m17 m15 in
    let m22 = with_xor m18 m13 in
    let m23 = with_xor m19 t25 in
    let m24 = with_xor m22 m23 in
    let m25 = with_and m22 m20 in
    let m26 = with_xor m21 m25 in
    let m27 = with_xor m20 m21 in
    let m28 = with_xor m23 m25 in
    let m29 = with_and m28 m27 in
    let m30 = with_and m26 m24 in
    let m31 = with_and m20 m23 in
    let m32 = with_and m27 m31 in
    let m33 = with_xor m27 m25 in
    let m34 = with_and m21 m22 in
    let m35 = with_and m24 m34 in
    let m36 = with_xor m24 m25 in
    let m37 = with_xor m21 m29 in
    let m38 = with_xor m32 m33 in
    let m39 = with_xor m23 m30 in
    let m40 = with_xor m35 m36 in
    let m41 = with_xor m38 m40 in
    let m42 = with_xor m37 m39 in
    let m43 = with_xor m37 m38 in
    let m44 = with_xor m39 m40 in
    let m45 = with_xor m42 m41 in
    let m46 = with_and m44 t6 in
    let m47 = with_and m40 t8 in
    let m48 = with_and m39 y5 in
    let m49 = with_and m43 t16 in
    let m50 = with_and m38 t9 in
    let m51 = with_and m37 t17 in
    let m52 = with_and m42 t15 in
    let m53 = with_and m45 t27 in
    let m54 = with_and m41 t10 in
    let m55 = with_and m44 t13 in
    let m56 = with_and m40 t23 in
    let m57 = with_and m39 t19 in
    let m58 = with_and m43 t3 in
    let m59 = with_and m38 t22 in
    let m60 = with_and m37 t20 in
    let m61 = with_and m42 t1 in
    let m62 = with_and m45 t4 in
    let m63 = with_and m41 t2 in
    let p0 = with_xor m52 m61 in
    let p1 = with_xor m58 m59 in
    let p2 = with_xor m54 m62 in
    let p3 = with_xor m47 m50 in
    let p4 = with_xor m48 m56 in
    let p5 = with_xor m46 m51 in
    let p6 = with_xor m49 m60 in
    let p7 = with_xor p0 p1 in
    let p8 = with_xor m50 m53 in
    let p9 = with_xor m55 m63 in
    let p10 = with_xor m57 p4 in
    let p11 = with_xor p0 p3 in
    let p12 = with_xor m46 m48 in
    let p13 = with_xor m49 m51 in
    let p14 = with_xor m49 m62 in
    let p15 = with_xor m54 m59 in
    let p16 = with_xor m57 m61 in
    let p17 = with_xor m58 p2 in
    let p18 = with_xor m63 p5 in
    let p19 = with_xor p2 p3 in
    let p20 = with_xor p4 p6 in
    let p22 = with_xor p2 p7 in
    let p23 = with_xor p7 p8 in
    let p24 = with_xor p5 p7 in
    let p25 = with_xor p6 p10 in
    let p26 = with_xor p9 p11 in
    let p27 = with_xor p10 p18 in
    let p28 = with_xor p11 p25 in
    let p29 = with_xor p15 p20 in
    record {
      bit0 = ended inverse_s_box 0 bytes (with_xor p9 p16) refl;
      bit1 = ended inverse_s_box 1 bytes (with_xor p14 p23) refl;
      bit2 = ended inverse_s_box 2 bytes (with_xor p19 p24) refl;
      bit3 = ended inverse_s_box 3 bytes (with_xor p23 p27) refl;
      bit4 = ended inverse_s_box 4 bytes (with_xor p12 p22) refl;
      bit5 = ended inverse_s_box 5 bytes (with_xor p17 p28) refl;
      bit6 = ended inverse_s_box 6 bytes (with_xor p26 p29) refl;
      bit7 = ended inverse_s_box 7 bytes (with_xor p13 p22) refl;
    }
