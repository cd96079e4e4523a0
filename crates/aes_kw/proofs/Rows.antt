-- Rows of halves.
use Rattle.std.proofs.Common.{◌≡◌, ◌≢◌, ℕ, zero, suc, ◌+◌, ◌-◌, ◌*◌, ◌<◌, ◌≤◌, List, ◌++◌, length, take, drop, replicate, ap, refl, sym, ◌∙◌, arith, inl, inr}
use Rattle.std.proofs.lemmas.Bool.{cases_lt}
use Rattle.std.proofs.lemmas.List.{append-nil, append_assoc, length-append, length-drop, length-take-le, drop_at, take_at, take_all, take-append-le, drop-append-le, drop-take, take-take, drop-drop, take-append-drop}
use Rattle.std.proofs.lemmas.List.Elements.{All-append, All-take, All-drop}
use Rattle.fips_197.specs.Bytes.{AreBytes, IsBlock}
use Rattle.aes_kw.specs.KeyWrap.{half, with_half}

-- what a slice of 8 bytes is
pub half-slice : (row : List ℕ) (i : ℕ) → take (8 * i + 8 - 8 * i) (drop (8 * i) row) ≡ half row i
unfolding half
half-slice row i = let n : 8 * i + 8 - 8 * i ≡ 8 = omega arith in ap (λ k. take k (drop (8 * i) row)) n

pub length-half : (row : List ℕ) (i : ℕ) → 8 * i + 8 ≤ length row → length (half row i) ≡ 8
unfolding half
length-half row i le = length-take-le 8 (drop (8 * i) row) (omega (arith, length-drop (8 * i) row))

pub AreBytes-half : (row : List ℕ) (i : ℕ) → AreBytes row → AreBytes (half row i)
unfolding half
AreBytes-half row i bytes = All-take (λ b. b < 256) 8 (drop (8 * i) row) (All-drop (λ b. b < 256) (8 * i) row bytes)

-- ---- two halves

pub half-first : (x y : List ℕ) → length x ≡ 8 → half (x ++ y) 0 ≡ x
unfolding half
half-first x y size = take_at x y 8 size

pub half-second : (x y : List ℕ) → length x ≡ 8 → length y ≡ 8 → half (x ++ y) 1 ≡ y
unfolding half
half-second x y sx sy = ap (take 8) (drop_at x y 8 sx) ∙ take_all 8 y (omega arith)

-- a block is its two halves
pub halves-block : (b : List ℕ) → length b ≡ 16 → half b 0 ++ half b 1 ≡ b
unfolding half
halves-block b size =
    ap (λ y. take 8 b ++ y) (take_all 8 (drop 8 b) (omega (arith, length-drop 8 b))) ∙ take-append-drop 8 b

pub IsBlock-halves : (x y : List ℕ) → length x ≡ 8 → length y ≡ 8 → AreBytes x → AreBytes y → IsBlock (x ++ y)
IsBlock-halves x y sx sy bx by = record {
  size = omega (arith, length-append x y);
  bytes = All-append (λ b. b < 256) x y bx by;
}

-- two halves written into a block of zeros
pub halves-written : (a b first second : List ℕ) → length a ≡ 8 → a ≡ first → b ≡ second
    → take 8 (a ++ replicate 8 0) ++ (b ++ drop 8 (drop 8 (a ++ replicate 8 0))) ≡ first ++ second
halves-written a b first second size is_first is_second =
    (λ t. take_at a (replicate 8 0) 8 size t ++ (b ++ drop 8 (drop_at a (replicate 8 0) 8 size t)))
    ∙ ap (λ l. a ++ l) (append-nil b) ∙ (λ t. is_first t ++ is_second t)

-- ---- a row with another half

-- what writing a slice of 8 bytes makes
pub with_half-written : (row : List ℕ) (i : ℕ) (x half : List ℕ) → x ≡ half
    → take (8 * i) row ++ (x ++ drop (8 * i + 8 - 8 * i) (drop (8 * i) row)) ≡ with_half row i half
unfolding with_half
with_half-written row i x half is =
    let behind : 8 * i + (8 * i + 8 - 8 * i) ≡ 8 * i + 8 = omega arith in
    let rest = drop-drop (8 * i + 8 - 8 * i) (8 * i) row ∙ ap (λ k. drop k row) behind in
    λ t. take (8 * i) row ++ (is t ++ rest t)

pub length-with_half : (row : List ℕ) (i : ℕ) (x : List ℕ) → 8 * i + 8 ≤ length row → length x ≡ 8 → length (with_half row i x) ≡ length row
unfolding with_half
length-with_half row i x le size =
    omega (
      arith,
      length-append (take (8 * i) row) (x ++ drop (8 * i + 8) row),
      length-append x (drop (8 * i + 8) row),
      length-take-le (8 * i) row (omega arith),
      length-drop (8 * i + 8) row,
    )

pub AreBytes-with_half : (row : List ℕ) (i : ℕ) (x : List ℕ) → AreBytes row → AreBytes x → AreBytes (with_half row i x)
unfolding with_half
AreBytes-with_half row i x hr hx =
    All-append (λ b. b < 256) (take (8 * i) row) (x ++ drop (8 * i + 8) row) (All-take (λ b. b < 256) (8 * i) row hr)
    (All-append (λ b. b < 256) x (drop (8 * i + 8) row) hx (All-drop (λ b. b < 256) (8 * i + 8) row hr))

pub half-with_same : (row : List ℕ) (i : ℕ) (x : List ℕ) → 8 * i + 8 ≤ length row → length x ≡ 8 → half (with_half row i x) i ≡ x
unfolding half with_half
half-with_same row i x le size =
    ap (take 8) (drop_at (take (8 * i) row) (x ++ drop (8 * i + 8) row) (8 * i) (length-take-le (8 * i) row (omega arith)))
    ∙ take_at x (drop (8 * i + 8) row) 8 size

half-with_before : (row : List ℕ) (i j : ℕ) (x : List ℕ) → 8 * i + 8 ≤ length row → j < i → half (with_half row i x) j ≡ half row j
unfolding half with_half
half-with_before row i j x le lt =
    let front : List ℕ = take (8 * i) row in
    let size : length front ≡ 8 * i = length-take-le (8 * i) row (omega arith) in
    let split : 8 * i ≡ 8 * j + (8 * i - 8 * j) = omega arith in
    ap (take 8) (drop-append-le (8 * j) front (x ++ drop (8 * i + 8) row) (omega arith))
    ∙ take-append-le 8 (drop (8 * j) front) (x ++ drop (8 * i + 8) row) (omega (arith, length-drop (8 * j) front))
    ∙ ap (take 8) (ap (λ k. drop (8 * j) (take k row)) split ∙ drop-take (8 * j) (8 * i - 8 * j) row)
    ∙ take-take 8 (8 * i - 8 * j) (drop (8 * j) row) (omega arith)

half-with_behind : (row : List ℕ) (i j : ℕ) (x : List ℕ) → 8 * i + 8 ≤ length row → length x ≡ 8 → i < j
    → half (with_half row i x) j ≡ half row j
unfolding half with_half
half-with_behind row i j x le sx lt =
    let front : List ℕ = take (8 * i) row in
    let rest : List ℕ = drop (8 * i + 8) row in
    let size : length (front ++ x) ≡ 8 * i + 8 =
    omega (arith, length-append front x, length-take-le (8 * i) row (omega arith)) in
    let split : 8 * j ≡ 8 * i + 8 + (8 * j - (8 * i + 8)) = omega arith in
    ap (take 8)
    (ap (drop (8 * j)) (sym (append_assoc front x rest))
    ∙ ap (λ k. drop k ((front ++ x) ++ rest)) split
    ∙ sym (drop-drop (8 * j - (8 * i + 8)) (8 * i + 8) ((front ++ x) ++ rest))
    ∙ ap (drop (8 * j - (8 * i + 8))) (drop_at (front ++ x) rest (8 * i + 8) size)
    ∙ drop-drop (8 * j - (8 * i + 8)) (8 * i + 8) row
    ∙ ap (λ k. drop k row) (sym split))

pub half-with_other : (row : List ℕ) (i j : ℕ) (x : List ℕ) → 8 * i + 8 ≤ length row → length x ≡ 8 → j ≢ i
    → half (with_half row i x) j ≡ half row j
half-with_other row i j x le size ne =
    elim (cases_lt j i) [
      | inl before ↦ half-with_before row i j x le before
      | inr behind ↦ half-with_behind row i j x le size (omega arith)
    ]

-- ---- rows with the same halves

take-half : (row : List ℕ) (k : ℕ) → take (8 * (k + 1)) row ≡ take (8 * k) row ++ half row k
unfolding half
take-half row k =
    let next : 8 * (k + 1) ≡ 8 * k + 8 = omega arith in
    let parts = take-append-drop (8 * k) (take (8 * k + 8) row) in
    ap (λ m. take m row) next ∙ sym (rw (take-take (8 * k) (8 * k + 8) row (omega arith), drop-take (8 * k) 8 row) at parts)

takes_alike : (row other : List ℕ) (k : ℕ) → ((j : ℕ) → j < k → half row j ≡ half other j) → take (8 * k) row ≡ take (8 * k) other
takes_alike row other zero same = refl
takes_alike row other (suc k) same =
    let next : suc k ≡ k + 1 = omega arith in
    ap (λ m. take (8 * m) row) next ∙ take-half row k
    ∙ (λ t. takes_alike row other k (λ j lt. same j (omega arith)) t ++ same k (omega arith) t)
    ∙ sym (ap (λ m. take (8 * m) other) next ∙ take-half other k)

pub same_rows : (row other : List ℕ) (k : ℕ) → length row ≡ 8 * k → length other ≡ 8 * k → ((j : ℕ) → j < k → half row j ≡ half other j)
    → row ≡ other
same_rows row other k size other_size same =
    sym (take_all (8 * k) row (omega arith)) ∙ takes_alike row other k same ∙ take_all (8 * k) other (omega arith)

-- what a row is in place of another one, of its length
pub written-back : (row items : List ℕ) (n : ℕ) → length row ≡ n → take n (row ++ drop (length row) items) ≡ row
written-back row items n size = take_at row (drop (length row) items) n size

-- a row without its first half, turned to the end and cut off
pub first-dropped : (row : List ℕ) (n : ℕ) → length row ≡ 8 * n + 8 → take (8 * n) (drop 8 row ++ take 8 row) ≡ drop 8 row
first-dropped row n size = take_at (drop 8 row) (take 8 row) (8 * n) (omega (arith, length-drop 8 row))
