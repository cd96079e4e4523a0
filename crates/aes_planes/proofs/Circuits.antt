-- The circuit is the S-box without its 0x63.
use Rattle.std.proofs.Common.{ℕ, List, bit_xor, refl, sym, subst}
use Rattle.std.proofs.lemmas.Simd.{map-map}
use Rattle.fips_197.specs.Bytes.{AreBytes}
use Rattle.fips_197.specs.Field.{bit, terms_product, remainder, product, inverse_below, inverse}
use Rattle.fips_197.specs.SBox.{from_bits, affine, s_box}
use Rattle.fips_197.specs.Cipher.{substitute_bytes}
use Rattle.aes_planes.specs.Planes.{IsSliced, with_constant}
use Rattle.aes_planes.specs.Circuit.{sums_of, norm_of, norm_inverse, products_of, output, circuit}
use Rattle.aes_planes.specs.declared.planes.Eight.{Eight}
use Rattle.aes_planes.proofs.TruthTables.{bit0_table, bit1_table, bit2_table, bit3_table, bit4_table, bit5_table, bit6_table, bit7_table, begun, with_xor, with_and, ended}

abbrev offset : ℕ → ℕ
offset b = bit_xor b 0x63

abbrev bare : ℕ → ℕ
bare b = bit_xor (s_box b) 0x63

pub IsSliced-circuit : (s : Eight) (j : ℕ) (x : List ℕ) → AreBytes x → IsSliced s j x
    → IsSliced (circuit s) j (with_constant (substitute_bytes x))
unfolding circuit sums_of norm_of norm_inverse products_of output with_constant substitute_bytes bit terms_product remainder product
    inverse_below inverse from_bits affine s_box
IsSliced-circuit s j x bytes is =
    let x0 = begun 7 bit7_table refl bytes is.bit7 in
    let x1 = begun 6 bit6_table refl bytes is.bit6 in
    let x2 = begun 5 bit5_table refl bytes is.bit5 in
    let x3 = begun 4 bit4_table refl bytes is.bit4 in
    let x4 = begun 3 bit3_table refl bytes is.bit3 in
    let x5 = begun 2 bit2_table refl bytes is.bit2 in
    let x6 = begun 1 bit1_table refl bytes is.bit1 in
    let x7 = begun 0 bit0_table refl bytes is.bit0 in
    let y14 = with_xor x3 x5 in
    let y13 = with_xor x0 x6 in
    let y9 = with_xor x0 x3 in
    let y8 = with_xor x0 x5 in
    let t0 = with_xor x1 x2 in
    let y1 = with_xor t0 x7 in
    let y4 = with_xor y1 x3 in
    let y12 = with_xor y13 y14 in
    let y2 = with_xor y1 x0 in
    let y5 = with_xor y1 x6 in
    let y3 = with_xor y5 y8 in
    let t1 = with_xor x4 y12 in
    let y15 = with_xor t1 x5 in
    let y20 = with_xor t1 x1 in
    let y6 = with_xor y15 x7 in
    let y10 = with_xor y15 t0 in
    let y11 = with_xor y20 y9 in
    let y7 = with_xor x7 y11 in
    let y17 = with_xor y10 y11 in
    let y19 = with_xor y10 y8 in
    let y16 = with_xor t0 y11 in
    let y21 = with_xor y13 y16 in
    let y18 = with_xor x0 y16 in
    let t2 = with_and y12 y15 in
    let t3 = with_and y3 y6 in
    let t4 = with_xor t3 t2 in
    let t5 = with_and y4 x7 in
    let t6 = with_xor t5 t2 in
    let t7 = with_and y13 y16 in
    let t8 = with_and y5 y1 in
    let t9 = with_xor t8 t7 in
    let t10 = with_and y2 y7 in
    let t11 = with_xor t10 t7 in
    let t12 = with_and y9 y11 in
    let t13 = with_and y14 y17 in
    let t14 = with_xor t13 t12 in
    let t15 = with_and y8 y10 in
    let t16 = with_xor t15 t12 in
    let t17 = with_xor t4 t14 in
    let t18 = with_xor t6 t16 in
    let t19 = with_xor t9 t14 in
    let t20 = with_xor t11 t16 in
    let t21 = with_xor t17 y20 in
    let t22 = with_xor t18 y19 in
    let t23 = with_xor t19 y21 in
    let t24 = with_xor t20 y18 in
    let t25 = with_xor t21 t22 in
    let t26 = with_and t21 t23 in
    let t27 = with_xor t24 t26 in
    let t28 = with_and t25 t27 in
    let t29 = with_xor t28 t22 in
    let t30 = with_xor t23 t24 in
    let t31 = with_xor t22 t26 in
    let t32 = with_and t31 t30 in
    let t33 = with_xor t32 t24 in
    let t34 = with_xor t23 t33 in
    let t35 = with_xor t27 t33 in
    let t36 = with_and t24 t35 in
    let t37 = with_xor t36 t34 in
    let t38 = with_xor t27 t36 in
    let t39 = with_and t29 t38 in
    let t40 = with_xor t25 t39 in
    let t41 = with_xor t40 t37 in
    let t42 = with_xor t29 t33 in
    let t43 = with_xor t29 t40 in
    let t44 = with_xor t33 t37 in
    let t45 = with_xor t42 t41 in
    let z0 = with_and t44 y15 in
    let z1 = with_and t37 y6 in
    let z2 = with_and t33 x7 in
    let z3 = with_and t43 y16 in
    let z4 = with_and t40 y1 in
    let z5 = with_and t29 y7 in
    let z6 = with_and t42 y11 in
    let z7 = with_and t45 y17 in
    let z8 = with_and t41 y10 in
    let z9 = with_and t44 y12 in
    let z10 = with_and t37 y3 in
    let z11 = with_and t33 y4 in
    let z12 = with_and t43 y13 in
    let z13 = with_and t40 y5 in
    let z14 = with_and t29 y2 in
    let z15 = with_and t42 y9 in
    let z16 = with_and t45 y14 in
    let z17 = with_and t41 y8 in
    let t46 = with_xor z15 z16 in
    let t47 = with_xor z10 z11 in
    let t48 = with_xor z5 z13 in
    let t49 = with_xor z9 z10 in
    let t50 = with_xor z2 z12 in
    let t51 = with_xor z2 z5 in
    let t52 = with_xor z7 z8 in
    let t53 = with_xor z0 z3 in
    let t54 = with_xor z6 z7 in
    let t55 = with_xor z16 z17 in
    let t56 = with_xor z12 t48 in
    let t57 = with_xor t50 t53 in
    let t58 = with_xor z4 t46 in
    let t59 = with_xor z3 t54 in
    let t60 = with_xor t46 t57 in
    let t61 = with_xor z14 t57 in
    let t62 = with_xor t52 t58 in
    let t63 = with_xor t49 t58 in
    let t64 = with_xor z4 t59 in
    let t65 = with_xor t61 t62 in
    let t66 = with_xor z1 t63 in
    let s3 = with_xor t53 t66 in
    let t67 = with_xor t64 t65 in
    subst (IsSliced (circuit s) j) (sym (map-map offset s_box x)) record {
      bit0 = ended bare 0 bytes (with_xor t48 t60) refl;
      bit1 = ended bare 1 bytes (with_xor t56 t62) refl;
      bit2 = ended bare 2 bytes (with_xor t47 t65) refl;
      bit3 = ended bare 3 bytes (with_xor t51 t66) refl;
      bit4 = ended bare 4 bytes s3 refl;
      bit5 = ended bare 5 bytes (with_xor t55 t67) refl;
      bit6 = ended bare 6 bytes (with_xor t64 s3) refl;
      bit7 = ended bare 7 bytes (with_xor t59 t63) refl;
    }
