-- Bits of bytes, and of the bytes of lists.
use Rattle.std.proofs.Common.{◌≡◌, ℕ, zero, suc, ◌/◌, ◌%◌, ◌^◌, ◌<◌, List, [], ◌∷◌, get_or, bit_xor, bit_and, ap, refl, sym, ◌∙◌, arith}
use lib.Lanes.{zip2}
use Rattle.std.proofs.lemmas.Nat.{xor_shr, xor_mod, and_shr, and_mod}
use Rattle.std.proofs.lemmas.Nat.Bits.{bit_at-zero}
use Rattle.fips_197.specs.Field.{bit}
use Rattle.fips_197.specs.Bytes.{xor_bytes}
use Rattle.aes_vector.specs.Rows.{pick}
use Rattle.aes_planes.specs.declared.planes.Eight.{Eight}
use Rattle.aes_planes.specs.Planes.{bits_at, IsSliced}

pub bit-lt : (a i : ℕ) → bit a i < 2
unfolding bit
bit-lt a i = omega arith

pub bit-xor : (a b i : ℕ) → bit (bit_xor a b) i ≡ bit_xor (bit a i) (bit b i)
unfolding bit
bit-xor a b i = ap (λ x. x % 2 ^ 1) (xor_shr a b i) ∙ xor_mod (a / 2 ^ i) (b / 2 ^ i) 1

pub bit-and : (a b i : ℕ) → bit (bit_and a b) i ≡ bit_and (bit a i) (bit b i)
unfolding bit
bit-and a b i = ap (λ x. x % 2 ^ 1) (and_shr a b i) ∙ and_mod (a / 2 ^ i) (b / 2 ^ i) 1

-- ---- the exclusive or

pub bits_at-xor : (j : ℕ) (a b : List ℕ) → bits_at j (zip2 bit_xor a b) ≡ zip2 bit_xor (bits_at j a) (bits_at j b)
unfolding bits_at
bits_at-xor j [] b = refl
bits_at-xor j (x ∷ a) [] = refl
bits_at-xor j (x ∷ a) (y ∷ b) = λ i. bit-xor x y j i ∷ bits_at-xor j a b i

pub bits_at-and : (j : ℕ) (a b : List ℕ) → bits_at j (zip2 bit_and a b) ≡ zip2 bit_and (bits_at j a) (bits_at j b)
unfolding bits_at
bits_at-and j [] b = refl
bits_at-and j (x ∷ a) [] = refl
bits_at-and j (x ∷ a) (y ∷ b) = λ i. bit-and x y j i ∷ bits_at-and j a b i

pub xor_bytes-zip2 : (a b : List ℕ) → xor_bytes a b ≡ zip2 bit_xor a b
unfolding xor_bytes
xor_bytes-zip2 [] b = refl
xor_bytes-zip2 (x ∷ a) [] = refl
xor_bytes-zip2 (x ∷ a) (y ∷ b) = ap (λ l. bit_xor x y ∷ l) (xor_bytes-zip2 a b)

pub plane_xor : (i j : ℕ) (a b x y : List ℕ) → bits_at j a ≡ bits_at i x → bits_at j b ≡ bits_at i y
    → bits_at j (zip2 bit_xor a b) ≡ bits_at i (xor_bytes x y)
plane_xor i j a b x y ea eb =
    bits_at-xor j a b ∙ (λ t. zip2 bit_xor (ea t) (eb t)) ∙ sym (bits_at-xor i x y)
    ∙ ap (bits_at i) (sym (xor_bytes-zip2 x y))

-- ---- bytes at other places

pub bit-index : (j : ℕ) (s : List ℕ) (k : ℕ) → bit (get_or s k 0) j ≡ get_or (bits_at j s) k 0
unfolding bits_at bit
bit-index j [] k = bit_at-zero j
bit-index j (x ∷ s) zero = refl
bit-index j (x ∷ s) (suc k) = bit-index j s k

bits_at-pick : (j : ℕ) (ks s : List ℕ) → bits_at j (pick ks s) ≡ pick ks (bits_at j s)
unfolding bits_at
bits_at-pick j [] s = refl
bits_at-pick j (k ∷ ks) s = λ i. bit-index j s k i ∷ bits_at-pick j ks s i

plane_pick : (i j : ℕ) (ks p r x : List ℕ) → r ≡ pick ks p → bits_at j p ≡ bits_at i x → bits_at j r ≡ bits_at i (pick ks x)
plane_pick i j ks p r x e ex = ap (bits_at j) e ∙ bits_at-pick j ks p ∙ ap (pick ks) ex ∙ sym (bits_at-pick i ks x)

-- each plane of t has the bytes of that of s at these places
pub record IsPicked (ks : List ℕ) (s t : Eight) : Type 0 where
  pub at0 : t.v0 ≡ pick ks s.v0
  pub at1 : t.v1 ≡ pick ks s.v1
  pub at2 : t.v2 ≡ pick ks s.v2
  pub at3 : t.v3 ≡ pick ks s.v3
  pub at4 : t.v4 ≡ pick ks s.v4
  pub at5 : t.v5 ≡ pick ks s.v5
  pub at6 : t.v6 ≡ pick ks s.v6
  pub at7 : t.v7 ≡ pick ks s.v7

pub IsSliced-picked : (ks : List ℕ) (s t : Eight) (j : ℕ) (x : List ℕ) → IsPicked ks s t → IsSliced s j x → IsSliced t j (pick ks x)
IsSliced-picked ks s t j x e is = record {
  bit0 = plane_pick 0 j ks s.v0 t.v0 x e.at0 is.bit0;
  bit1 = plane_pick 1 j ks s.v1 t.v1 x e.at1 is.bit1;
  bit2 = plane_pick 2 j ks s.v2 t.v2 x e.at2 is.bit2;
  bit3 = plane_pick 3 j ks s.v3 t.v3 x e.at3 is.bit3;
  bit4 = plane_pick 4 j ks s.v4 t.v4 x e.at4 is.bit4;
  bit5 = plane_pick 5 j ks s.v5 t.v5 x e.at5 is.bit5;
  bit6 = plane_pick 6 j ks s.v6 t.v6 x e.at6 is.bit6;
  bit7 = plane_pick 7 j ks s.v7 t.v7 x e.at7 is.bit7;
}

-- a fact of each number below 8
pub each_of_eight : (P : ℕ → Type 0) → P 0 → P 1 → P 2 → P 3 → P 4 → P 5 → P 6 → P 7 → (j : ℕ) → j < 8 → P j
each_of_eight P p0 p1 p2 p3 p4 p5 p6 p7 zero lt = p0
each_of_eight P p0 p1 p2 p3 p4 p5 p6 p7 (suc zero) lt = p1
each_of_eight P p0 p1 p2 p3 p4 p5 p6 p7 (suc (suc zero)) lt = p2
each_of_eight P p0 p1 p2 p3 p4 p5 p6 p7 (suc (suc (suc zero))) lt = p3
each_of_eight P p0 p1 p2 p3 p4 p5 p6 p7 (suc (suc (suc (suc zero)))) lt = p4
each_of_eight P p0 p1 p2 p3 p4 p5 p6 p7 (suc (suc (suc (suc (suc zero))))) lt = p5
each_of_eight P p0 p1 p2 p3 p4 p5 p6 p7 (suc (suc (suc (suc (suc (suc zero)))))) lt = p6
each_of_eight P p0 p1 p2 p3 p4 p5 p6 p7 (suc (suc (suc (suc (suc (suc (suc zero))))))) lt = p7
each_of_eight P p0 p1 p2 p3 p4 p5 p6 p7 (suc (suc (suc (suc (suc (suc (suc (suc j)))))))) lt = absurd (omega arith)
