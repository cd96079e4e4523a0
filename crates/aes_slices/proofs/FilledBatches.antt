-- A batch that is filled from a text.
use Rattle.std.proofs.Common.{◌≡◌, ℕ, ◌+◌, ◌-◌, ◌*◌, ◌<◌, ◌≤◌, List, ◌++◌, length, take, drop, ap, sym, ◌∙◌, arith, inl, inr, min}
use lib.Lanes.{zip2}
use Rattle.std.specs.Prelude.{bit_xor}
use Rattle.std.proofs.lemmas.Bool.{cases_lt}
use Rattle.std.proofs.lemmas.List.{take_all, take_at, drop_at, drop-drop, take-take, drop-take}
use Rattle.fips_197.specs.Bytes.{xor_bytes}
use Rattle.fips_197.specs.Texts.{block_of}
use Rattle.fips_197.proofs.ScheduleParts.{take-add}
use Rattle.aes_planes.specs.declared.planes.Eight.{Eight}
use Rattle.aes_planes.specs.Planes.{vector_of}
use Rattle.aes_planes.proofs.Bits.{xor_bytes-zip2, each_of_eight}

-- the first bytes of two lists, beyond the first list
pub take-both : (xs ys : List ℕ) (m : ℕ) → take (length xs + m) (xs ++ ys) ≡ xs ++ take m ys
take-both xs ys m =
    take-add (xs ++ ys) (length xs) m
    ∙ (λ t. take_at xs ys (length xs) (omega arith) t ++ take m (drop_at xs ys (length xs) (omega arith) t))

pub drop-both : (xs ys : List ℕ) (n : ℕ) → length xs ≤ n → drop n (xs ++ ys) ≡ drop (n - length xs) ys
drop-both xs ys n le =
    let sum : n ≡ length xs + (n - length xs) = omega arith in
    ap (λ k. drop k (xs ++ ys)) sum ∙ sym (drop-drop (n - length xs) (length xs) (xs ++ ys))
    ∙ ap (drop (n - length xs)) (drop_at xs ys (length xs) (omega arith))

-- a batch that begins with the first bytes of a list, as many as it has
pub filled_is : (rest r : List ℕ) (m : ℕ) → m ≡ min (length rest) 128 → length r ≡ 128 → take m r ≡ take m rest
    → take (length rest) r ≡ take 128 rest
filled_is rest r m e size same = elim (cases_lt (length rest) 128) [
  | inl short ↦
      let all : length rest ≡ m = omega (arith, e) in
      ap (λ k. take k r) all ∙ same ∙ take_all m rest (omega arith) ∙ sym (take_all 128 rest (omega arith))
  | inr long ↦
      let all : m ≡ 128 = omega (arith, e) in
      take_all (length rest) r (omega arith) ∙ sym (take_all m r (omega arith)) ∙ same ∙ ap (λ k. take k rest) all
]

-- a block of what begins with as many bytes
pub block_of-take : (xs : List ℕ) (m k : ℕ) → 16 * k + 16 ≤ m → block_of (take m xs) k ≡ block_of xs k
unfolding block_of
block_of-take xs m k le =
    let rest : ℕ = m - 16 * k in
    let sum : m ≡ 16 * k + rest = omega arith in
    ap (λ n. take 16 (drop (16 * k) (take n xs))) sum ∙ ap (take 16) (drop-take (16 * k) rest xs)
    ∙ take-take 16 rest (drop (16 * k) xs) (omega arith)

-- a block of a batch is one of its text
pub block_in_batch : (text r : List ℕ) (n k : ℕ) → take (length text - 128 * n) r ≡ take 128 (drop (128 * n) text) → k < 8
    → 16 * (8 * n + k) + 16 ≤ length text → block_of r k ≡ block_of text (8 * n + k)
unfolding block_of
block_in_batch text r n k e lt within =
    let same : 128 * n + 16 * k ≡ 16 * (8 * n + k) = omega arith in
    sym (block_of-take r (length text - 128 * n) k (omega arith)) ∙ ap (λ l. block_of l k) e
    ∙ block_of-take (drop (128 * n) text) 128 k (omega arith)
    ∙ ap (take 16) (drop-drop (16 * k) (128 * n) text ∙ ap (λ m. drop m text) same)

abbrev pub xored : Eight → Eight → Eight
xored a b = record {
  v0 = zip2 bit_xor a.v0 b.v0;
  v1 = zip2 bit_xor a.v1 b.v1;
  v2 = zip2 bit_xor a.v2 b.v2;
  v3 = zip2 bit_xor a.v3 b.v3;
  v4 = zip2 bit_xor a.v4 b.v4;
  v5 = zip2 bit_xor a.v5 b.v5;
  v6 = zip2 bit_xor a.v6 b.v6;
  v7 = zip2 bit_xor a.v7 b.v7;
}

pub xor_eight : (a b : Eight) (i : ℕ) → i < 8 → vector_of (xored a b) i ≡ xor_bytes (vector_of a i) (vector_of b i)
unfolding vector_of
xor_eight a b = each_of_eight (λ i. vector_of (xored a b) i ≡ xor_bytes (vector_of a i) (vector_of b i))
    (sym (xor_bytes-zip2 a.v0 b.v0)) (sym (xor_bytes-zip2 a.v1 b.v1)) (sym (xor_bytes-zip2 a.v2 b.v2)) (sym (xor_bytes-zip2 a.v3 b.v3))
    (sym (xor_bytes-zip2 a.v4 b.v4)) (sym (xor_bytes-zip2 a.v5 b.v5)) (sym (xor_bytes-zip2 a.v6 b.v6)) (sym (xor_bytes-zip2 a.v7 b.v7))
