-- Bytes and blocks: what is one, and the exclusive or of two.
use Rattle.std.proofs.Common.{◌≡◌, ℕ, zero, suc, ◌+◌, ◌<◌, ◌≤◌, List, [], ◌∷◌, ◌++◌, length, take, drop, set, get_or, bit_xor, ap, refl, sym, ◌∙◌, arith, inl, inr}
use Rattle.std.specs.Int.Bits.{xor_assoc, xor_zero_r, xor_self}
use Rattle.std.proofs.lemmas.Nat.{xor_comm, xor_lt}
use Rattle.std.proofs.lemmas.Bool.{cases_lt}
use Rattle.std.proofs.lemmas.List.{append-nil, take_all, drop_more, drop_all, get_or_past, length-append}
use Rattle.std.proofs.lemmas.List.Elements.{All-get_or, All-from_get_or, All-append, All-cons, All-nil}
use Rattle.fips_197.specs.Bytes.{AreBytes, IsBlock, xor_bytes}
use Rattle.fips_197.specs.State.{state, columns}

-- a byte of a list of bytes, or the 0 past its end
pub AreBytes-at : (s : List ℕ) → AreBytes s → (i : ℕ) → get_or s i 0 < 256
AreBytes-at s bytes i = elim (cases_lt i (length s)) [
  | inl within ↦ All-get_or (λ b. b < 256) s i 0 within bytes
  | inr past ↦ rw (get_or_past s i 0 past) (omega arith)
]

pub AreBytes-cons : (b : ℕ) (s : List ℕ) → b < 256 → AreBytes s → AreBytes (b ∷ s)
AreBytes-cons b s lt bytes = All-cons (λ x. x < 256) b s lt bytes

pub AreBytes-append : (s t : List ℕ) → AreBytes s → AreBytes t → AreBytes (s ++ t)
AreBytes-append s t hs ht = All-append (λ x. x < 256) s t hs ht

-- four bytes
pub AreBytes-four : (a b c d : ℕ) → a < 256 → b < 256 → c < 256 → d < 256 → AreBytes (a ∷ b ∷ c ∷ d ∷ [])
AreBytes-four a b c d ha hb hc hd =
    AreBytes-cons a (b ∷ c ∷ d ∷ []) ha
    (AreBytes-cons b (c ∷ d ∷ []) hb (AreBytes-cons c (d ∷ []) hc (AreBytes-cons d [] hd (All-nil (λ x. x < 256)))))

-- ---- the exclusive or

pub get_or-xor_bytes : (s t : List ℕ) (i : ℕ) → length s ≡ length t → get_or (xor_bytes s t) i 0
    ≡ bit_xor (get_or s i 0) (get_or t i 0)
unfolding xor_bytes
get_or-xor_bytes [] [] i e = refl
get_or-xor_bytes [] (y ∷ t) i e = absurd (omega arith)
get_or-xor_bytes (x ∷ s) [] i e = absurd (omega arith)
get_or-xor_bytes (x ∷ s) (y ∷ t) zero e = refl
get_or-xor_bytes (x ∷ s) (y ∷ t) (suc i) e = get_or-xor_bytes s t i (omega arith)

pub length-xor_bytes : (s t : List ℕ) → length s ≡ length t → length (xor_bytes s t) ≡ length s
unfolding xor_bytes
length-xor_bytes [] t e = refl
length-xor_bytes (x ∷ s) [] e = absurd (omega arith)
length-xor_bytes (x ∷ s) (y ∷ t) e = ap suc (length-xor_bytes s t (omega arith))

pub xor_bytes_comm : (s t : List ℕ) → xor_bytes s t ≡ xor_bytes t s
unfolding xor_bytes
xor_bytes_comm [] [] = refl
xor_bytes_comm [] (y ∷ t) = refl
xor_bytes_comm (x ∷ s) [] = refl
xor_bytes_comm (x ∷ s) (y ∷ t) = λ i. xor_comm x y i ∷ xor_bytes_comm s t i

-- what is added twice is gone
pub xor_bytes-twice : (s t : List ℕ) → length s ≡ length t → xor_bytes (xor_bytes s t) t ≡ s
unfolding xor_bytes
xor_bytes-twice [] t e = refl
xor_bytes-twice (x ∷ s) [] e = absurd (omega arith)
xor_bytes-twice (x ∷ s) (y ∷ t) e =
    let one : bit_xor (bit_xor x y) y ≡ x = xor_assoc x y y ∙ ap (bit_xor x) (xor_self y) ∙ xor_zero_r x in
    λ i. one i ∷ xor_bytes-twice s t (omega arith) i

pub AreBytes-xor_bytes : (s t : List ℕ) → length s ≡ length t → AreBytes s → AreBytes t → AreBytes (xor_bytes s t)
AreBytes-xor_bytes s t e hs ht =
    All-from_get_or (λ b. b < 256) (xor_bytes s t) 0
    (λ i lt. rw (get_or-xor_bytes s t i e) (xor_lt 8 (get_or s i 0) (get_or t i 0) (AreBytes-at s hs i) (AreBytes-at t ht i)))

pub IsBlock-xor_bytes : (s t : List ℕ) → IsBlock s → IsBlock t → IsBlock (xor_bytes s t)
IsBlock-xor_bytes s t hs ht =
    let same : length s ≡ length t = hs.size ∙ sym ht.size in
    record { size = length-xor_bytes s t same ∙ hs.size; bytes = AreBytes-xor_bytes s t same hs.bytes ht.bytes }

-- the first i bytes added
abbrev pub xored : List ℕ → List ℕ → ℕ → List ℕ
xored s t i = xor_bytes s (take i t) ++ drop i s

pub xored-none : (s t : List ℕ) → s ≡ xored s t 0
unfolding xor_bytes
xored-none [] t = refl
xored-none (x ∷ s) t = refl

-- byte i is still as it was
pub get_or-xored : (s t : List ℕ) (i : ℕ) → i < length s → i < length t → get_or (xored s t i) i 0 ≡ get_or s i 0
unfolding xor_bytes
get_or-xored [] t i lt _ = absurd (omega arith)
get_or-xored (x ∷ s) [] i _ lt = absurd (omega arith)
get_or-xored (x ∷ s) (y ∷ t) zero _ _ = refl
get_or-xored (x ∷ s) (y ∷ t) (suc i) ls lt = get_or-xored s t i (omega arith) (omega arith)

-- and with it i + 1 bytes are added
pub xored-more : (s t : List ℕ) (i : ℕ) → i < length s → i < length t
    → set (xored s t i) i (bit_xor (get_or s i 0) (get_or t i 0)) ≡ xored s t (suc i)
unfolding xor_bytes
xored-more [] t i lt _ = absurd (omega arith)
xored-more (x ∷ s) [] i _ lt = absurd (omega arith)
xored-more (x ∷ s) (y ∷ t) zero _ _ = ap (λ l. bit_xor x y ∷ l) (xored-none s t)
xored-more (x ∷ s) (y ∷ t) (suc i) ls lt = ap (λ l. bit_xor x y ∷ l) (xored-more s t i (omega arith) (omega arith))

pub xored-all : (s t : List ℕ) (i : ℕ) → length s ≡ 16 → length t ≡ 16 → 16 ≤ i → xored s t i ≡ xor_bytes s t
xored-all s t i ls lt le =
    (λ u. xor_bytes s (take_all i t (omega arith) u) ++ drop_all i s (omega arith) u) ∙ append-nil (xor_bytes s t)

-- ---- a block by its bytes

-- four places of a list
pub four_more : (xs : List ℕ) (i : ℕ) → i + 4 ≤ length xs
    → drop i xs ≡ get_or xs i 0 ∷ get_or xs (i + 1) 0 ∷ get_or xs (i + 2) 0 ∷ get_or xs (i + 3) 0 ∷ drop (i + 4) xs
four_more xs i h =
    let second : i + 1 + 1 ≡ i + 2 = omega arith in
    let third : i + 2 + 1 ≡ i + 3 = omega arith in
    let fourth : i + 3 + 1 ≡ i + 4 = omega arith in
    drop_more xs i 0 (omega arith)
    ∙ ap (λ l. get_or xs i 0 ∷ l) (drop_more xs (i + 1) 0 (omega arith) ∙ ap (λ k. get_or xs (i + 1) 0 ∷ drop k xs) second)
    ∙ ap (λ l. get_or xs i 0 ∷ get_or xs (i + 1) 0 ∷ l)
    (drop_more xs (i + 2) 0 (omega arith) ∙ ap (λ k. get_or xs (i + 2) 0 ∷ drop k xs) third)
    ∙ ap (λ l. get_or xs i 0 ∷ get_or xs (i + 1) 0 ∷ get_or xs (i + 2) 0 ∷ l)
    (drop_more xs (i + 3) 0 (omega arith) ∙ ap (λ k. get_or xs (i + 3) 0 ∷ drop k xs) fourth)

-- the bytes of a block
pub by_bytes : (s : List ℕ) → length s ≡ 16
    → s ≡ get_or s 0 0 ∷ get_or s 1 0 ∷ get_or s 2 0 ∷ get_or s 3 0 ∷ get_or s 4 0 ∷ get_or s 5 0 ∷ get_or s 6 0 ∷ get_or s 7 0
    ∷ get_or s 8 0 ∷ get_or s 9 0 ∷ get_or s 10 0 ∷ get_or s 11 0 ∷ get_or s 12 0 ∷ get_or s 13 0 ∷ get_or s 14 0 ∷
    get_or s 15 0 ∷ []
by_bytes s size =
    four_more s 0 (omega arith) ∙ ap (λ l. get_or s 0 0 ∷ get_or s 1 0 ∷ get_or s 2 0 ∷ get_or s 3 0 ∷ l)
    (four_more s 4 (omega arith) ∙ ap (λ l. get_or s 4 0 ∷ get_or s 5 0 ∷ get_or s 6 0 ∷ get_or s 7 0 ∷ l)
    (four_more s 8 (omega arith) ∙ ap (λ l. get_or s 8 0 ∷ get_or s 9 0 ∷ get_or s 10 0 ∷ get_or s 11 0 ∷ l)
    (four_more s 12 (omega arith) ∙ ap (λ l. get_or s 12 0 ∷ get_or s 13 0 ∷ get_or s 14 0 ∷ get_or s 15 0 ∷ l)
    (drop_all 16 s (omega arith)))))

-- a state made of four columns of four bytes
pub IsBlock-columns : (f : ℕ → List ℕ) → ((c : ℕ) → length (f c) ≡ 4) → ((c : ℕ) → AreBytes (f c)) → IsBlock (columns f)
unfolding columns
IsBlock-columns f four bytes = record {
  size = omega (
    arith,
    length-append (f 0) (f 1 ++ (f 2 ++ f 3)),
    length-append (f 1) (f 2 ++ f 3),
    length-append (f 2) (f 3),
    four 0,
    four 1,
    four 2,
    four 3,
  );
  bytes = AreBytes-append (f 0) (f 1 ++ (f 2 ++ f 3)) (bytes 0)
      (AreBytes-append (f 1) (f 2 ++ f 3) (bytes 1) (AreBytes-append (f 2) (f 3) (bytes 2) (bytes 3)));
}

-- a state made of bytes
pub IsBlock-state : (f : ℕ → ℕ → ℕ) → ((r c : ℕ) → f r c < 256) → IsBlock (state f)
unfolding state columns
IsBlock-state f bytes =
    IsBlock-columns (λ c. f 0 c ∷ f 1 c ∷ f 2 c ∷ f 3 c ∷ []) (λ c. refl)
    (λ c. AreBytes-four (f 0 c) (f 1 c) (f 2 c) (f 3 c) (bytes 0 c) (bytes 1 c) (bytes 2 c) (bytes 3 c))
