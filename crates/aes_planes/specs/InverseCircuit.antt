-- The circuit of the inverse S-box, gate by gate, on planes of bytes that 0x63 was added to.
use Rattle.aes_planes.specs.Circuit.{xor, and}
use Rattle.aes_planes.specs.declared.planes.Eight.{Eight}
use Rattle.aes_planes.specs.declared.inverse_circuit.SumsBack.{SumsBack}
use Rattle.aes_planes.specs.declared.inverse_circuit.NormBack.{NormBack}
use Rattle.aes_planes.specs.declared.inverse_circuit.NormInverseBack.{NormInverseBack}
use Rattle.aes_planes.specs.declared.inverse_circuit.ProductsBack.{ProductsBack}

-- the linear layer at the begin
unfoldable pub sums_back : Eight → SumsBack
sums_back s =
    let t23 = xor s.v7 s.v4 in
    let t22 = xor s.v6 s.v4 in
    let t2 = xor s.v7 s.v6 in
    let t1 = xor s.v4 s.v3 in
    let t24 = xor s.v3 s.v0 in
    let r5 = xor s.v1 s.v0 in
    let t8 = xor s.v6 t23 in
    let t19 = xor t22 r5 in
    let t9 = xor s.v0 t1 in
    let t10 = xor t2 t24 in
    let t13 = xor t2 r5 in
    let t3 = xor t1 r5 in
    let t25 = xor s.v5 t1 in
    let r13 = xor s.v6 s.v1 in
    let t17 = xor s.v5 t19 in
    let t20 = xor t24 r13 in
    let t4 = xor s.v3 t8 in
    let r17 = xor s.v5 s.v2 in
    let r18 = xor s.v2 s.v1 in
    let r19 = xor s.v5 s.v3 in
    let y5 = xor s.v7 r17 in
    let t6 = xor t22 r17 in
    let t16 = xor r13 r19 in
    let t27 = xor t1 r18 in
    let t15 = xor t10 t27 in
    let t14 = xor t10 r18 in
    let t26 = xor t3 t16 in
    record {
      t1 = t1;
      t2 = t2;
      t3 = t3;
      t4 = t4;
      t6 = t6;
      t8 = t8;
      t9 = t9;
      t10 = t10;
      t13 = t13;
      t14 = t14;
      t15 = t15;
      t16 = t16;
      t17 = t17;
      t19 = t19;
      t20 = t20;
      t22 = t22;
      t23 = t23;
      t24 = t24;
      t25 = t25;
      t26 = t26;
      t27 = t27;
      y5 = y5;
    }

-- the norm
unfoldable pub norm_back : SumsBack → NormBack
norm_back t =
    let m1 = and t.t13 t.t6 in
    let m2 = and t.t23 t.t8 in
    let m3 = xor t.t14 m1 in
    let m4 = and t.t19 t.y5 in
    let m5 = xor m4 m1 in
    let m6 = and t.t3 t.t16 in
    let m7 = and t.t22 t.t9 in
    let m8 = xor t.t26 m6 in
    let m9 = and t.t20 t.t17 in
    let m10 = xor m9 m6 in
    let m11 = and t.t1 t.t15 in
    let m12 = and t.t4 t.t27 in
    let m13 = xor m12 m11 in
    let m14 = and t.t2 t.t10 in
    let m15 = xor m14 m11 in
    let m16 = xor m3 m2 in
    let m17 = xor m5 t.t24 in
    let m18 = xor m8 m7 in
    let m19 = xor m10 m15 in
    let m20 = xor m16 m13 in
    let m21 = xor m17 m15 in
    let m22 = xor m18 m13 in
    let m23 = xor m19 t.t25 in
    record {
      m20 = m20;
      m21 = m21;
      m22 = m22;
      m23 = m23;
    }

-- its inverse
unfoldable pub norm_inverse_back : NormBack → NormInverseBack
norm_inverse_back n =
    let m24 = xor n.m22 n.m23 in
    let m25 = and n.m22 n.m20 in
    let m26 = xor n.m21 m25 in
    let m27 = xor n.m20 n.m21 in
    let m28 = xor n.m23 m25 in
    let m29 = and m28 m27 in
    let m30 = and m26 m24 in
    let m31 = and n.m20 n.m23 in
    let m32 = and m27 m31 in
    let m33 = xor m27 m25 in
    let m34 = and n.m21 n.m22 in
    let m35 = and m24 m34 in
    let m36 = xor m24 m25 in
    let m37 = xor n.m21 m29 in
    let m38 = xor m32 m33 in
    let m39 = xor n.m23 m30 in
    let m40 = xor m35 m36 in
    let m41 = xor m38 m40 in
    let m42 = xor m37 m39 in
    let m43 = xor m37 m38 in
    let m44 = xor m39 m40 in
    let m45 = xor m42 m41 in
    record {
      m37 = m37;
      m38 = m38;
      m39 = m39;
      m40 = m40;
      m41 = m41;
      m42 = m42;
      m43 = m43;
      m44 = m44;
      m45 = m45;
    }

-- the products
unfoldable pub products_back : SumsBack → NormInverseBack → ProductsBack
products_back t i =
    record {
      m46 = and i.m44 t.t6;
      m47 = and i.m40 t.t8;
      m48 = and i.m39 t.y5;
      m49 = and i.m43 t.t16;
      m50 = and i.m38 t.t9;
      m51 = and i.m37 t.t17;
      m52 = and i.m42 t.t15;
      m53 = and i.m45 t.t27;
      m54 = and i.m41 t.t10;
      m55 = and i.m44 t.t13;
      m56 = and i.m40 t.t23;
      m57 = and i.m39 t.t19;
      m58 = and i.m43 t.t3;
      m59 = and i.m38 t.t22;
      m60 = and i.m37 t.t20;
      m61 = and i.m42 t.t1;
      m62 = and i.m45 t.t4;
      m63 = and i.m41 t.t2;
    }

-- the linear layer at the end
unfoldable pub output_back : ProductsBack → Eight
output_back m =
    let p0 = xor m.m52 m.m61 in
    let p1 = xor m.m58 m.m59 in
    let p2 = xor m.m54 m.m62 in
    let p3 = xor m.m47 m.m50 in
    let p4 = xor m.m48 m.m56 in
    let p5 = xor m.m46 m.m51 in
    let p6 = xor m.m49 m.m60 in
    let p7 = xor p0 p1 in
    let p8 = xor m.m50 m.m53 in
    let p9 = xor m.m55 m.m63 in
    let p10 = xor m.m57 p4 in
    let p11 = xor p0 p3 in
    let p12 = xor m.m46 m.m48 in
    let p13 = xor m.m49 m.m51 in
    let p14 = xor m.m49 m.m62 in
    let p15 = xor m.m54 m.m59 in
    let p16 = xor m.m57 m.m61 in
    let p17 = xor m.m58 p2 in
    let p18 = xor m.m63 p5 in
    let p19 = xor p2 p3 in
    let p20 = xor p4 p6 in
    let p22 = xor p2 p7 in
    let p23 = xor p7 p8 in
    let p24 = xor p5 p7 in
    let p25 = xor p6 p10 in
    let p26 = xor p9 p11 in
    let p27 = xor p10 p18 in
    let p28 = xor p11 p25 in
    let p29 = xor p15 p20 in
    record {
      v0 = xor p9 p16;
      v1 = xor p14 p23;
      v2 = xor p19 p24;
      v3 = xor p23 p27;
      v4 = xor p12 p22;
      v5 = xor p17 p28;
      v6 = xor p26 p29;
      v7 = xor p13 p22;
    }

-- all of it
unfoldable pub circuit_back : Eight → Eight
circuit_back s =
    output_back (products_back (sums_back s) (norm_inverse_back (norm_back (sums_back s))))
