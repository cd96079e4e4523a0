use Rattle.aes_planes.proofs.Bits.{plane_xor}
use Rattle.aes_planes.proofs.sums.added.Goals as goal

pub returns : goal.returns
returns c j x y is it = record {
  bit0 = plane_xor 0 j c.args.s.v0 c.args.t.v0 x y is.bit0 it.bit0;
  bit1 = plane_xor 1 j c.args.s.v1 c.args.t.v1 x y is.bit1 it.bit1;
  bit2 = plane_xor 2 j c.args.s.v2 c.args.t.v2 x y is.bit2 it.bit2;
  bit3 = plane_xor 3 j c.args.s.v3 c.args.t.v3 x y is.bit3 it.bit3;
  bit4 = plane_xor 4 j c.args.s.v4 c.args.t.v4 x y is.bit4 it.bit4;
  bit5 = plane_xor 5 j c.args.s.v5 c.args.t.v5 x y is.bit5 it.bit5;
  bit6 = plane_xor 6 j c.args.s.v6 c.args.t.v6 x y is.bit6 it.bit6;
  bit7 = plane_xor 7 j c.args.s.v7 c.args.t.v7 x y is.bit7 it.bit7;
}
