-- An inverse round in the basis of the inverse rounds is the standard's.
use Rattle.std.proofs.Common.{◌≡◌, ℕ, ◌<◌, List, [], ◌∷◌, map, length, get_or, bit_xor, refl, sym, ap, ◌∙◌, arith}
use lib.Lanes.{zip2}
use Rattle.std.specs.Int.Bits.{xor_assoc}
use Rattle.std.proofs.lemmas.Nat.{xor_lt}
use Rattle.std.proofs.lemmas.List.{get_or-map, length-map}
use Rattle.std.proofs.lemmas.List.Elements.{All-from_get_or, All-head, All-tail}
use Rattle.fips_197.specs.Bytes.{AreBytes, IsBlock, xor_bytes}
use Rattle.fips_197.specs.Field.{product}
use Rattle.fips_197.specs.SBox.{inverse_s_box}
use Rattle.fips_197.specs.State.{byte_at, state, column, columns}
use Rattle.fips_197.specs.WordPolynomial.{coefficient, word_product}
use Rattle.fips_197.specs.Cipher.{multiply_columns, add_round_key}
use Rattle.fips_197.specs.InverseCipher.{inverse_shift_rows, inverse_mix_columns}
use Rattle.fips_197.proofs.Blocks.{AreBytes-at}
use Rattle.fips_197.proofs.SBoxLaws.{inverse_s_box-lt}
use Rattle.aes_vector.specs.Rows.{bytes_in_place, pick, rows_next, rows_shifted_back}
use Rattle.aes_vector.specs.Halves.{inverse_basis}
use Rattle.aes_vector.proofs.Rounds.{turned, entry}
use Rattle.aes_vector.proofs.InverseBasis.{bare_inverse, bare_inverse-xor, cell_back}

abbrev Sum : ℕ → ℕ → ℕ → ℕ → ℕ → ℕ
Sum p q r u k = bit_xor (bit_xor
    (bit_xor (bit_xor (bare_inverse (product 9 u)) (bare_inverse (product 13 r))) (bare_inverse (product 11 q)))
    (bare_inverse (product 14 p))) (inverse_basis k)

back0 : (p q r u k : ℕ) → p < 256 → q < 256 → r < 256 → u < 256 → k < 256
    → Sum p q r u k ≡ inverse_basis (bit_xor (bit_xor (bit_xor (bit_xor (product 14 p) (product 11 q)) (product 13 r)) (product 9 u)) k)
back0 p q r u k hp hq hr hu hk = cell_back p q r u k hp hq hr hu hk

back1 : (p q r u k : ℕ) → p < 256 → q < 256 → r < 256 → u < 256 → k < 256
    → Sum p q r u k ≡ inverse_basis (bit_xor (bit_xor (bit_xor (bit_xor (product 9 u) (product 14 p)) (product 11 q)) (product 13 r)) k)
back1 p q r u k hp hq hr hu hk = cell_back p q r u k hp hq hr hu hk
    ∙ ap inverse_basis (turned (product 14 p) (product 11 q) (product 13 r) (product 9 u) k)

back2 : (p q r u k : ℕ) → p < 256 → q < 256 → r < 256 → u < 256 → k < 256
    → Sum p q r u k ≡ inverse_basis (bit_xor (bit_xor (bit_xor (bit_xor (product 13 r) (product 9 u)) (product 14 p)) (product 11 q)) k)
back2 p q r u k hp hq hr hu hk = cell_back p q r u k hp hq hr hu hk
    ∙ ap inverse_basis (turned (product 14 p) (product 11 q) (product 13 r) (product 9 u) k
    ∙ turned (product 9 u) (product 14 p) (product 11 q) (product 13 r) k)

back3 : (p q r u k : ℕ) → p < 256 → q < 256 → r < 256 → u < 256 → k < 256
    → Sum p q r u k ≡ inverse_basis (bit_xor (bit_xor (bit_xor (bit_xor (product 11 q) (product 13 r)) (product 9 u)) (product 14 p)) k)
back3 p q r u k hp hq hr hu hk = cell_back p q r u k hp hq hr hu hk
    ∙ ap inverse_basis (turned (product 14 p) (product 11 q) (product 13 r) (product 9 u) k
    ∙ turned (product 9 u) (product 14 p) (product 11 q) (product 13 r) k
    ∙ turned (product 13 r) (product 9 u) (product 14 p) (product 11 q) k)

pub IsBlock-unboxed : (s : List ℕ) → IsBlock s → IsBlock (map inverse_s_box s)
IsBlock-unboxed s bs = record {
  size = length-map s inverse_s_box ∙ bs.size;
  bytes = All-from_get_or (λ b. b < 256) (map inverse_s_box s) 0 (λ i lt.
      let within : i < length s = omega (arith, length-map s inverse_s_box) in
      rw (get_or-map inverse_s_box s i 0 0 within) (inverse_s_box-lt (get_or s i 0) (AreBytes-at s bs.bytes i)));
}

-- what tables make of a place of the state
table-entry : (f g : ℕ → ℕ) (s x : List ℕ) → IsBlock s → x ≡ map inverse_basis s
    → ((b : ℕ) → b < 256 → f (inverse_basis b) ≡ g (inverse_s_box b))
    → (j : ℕ) → j < 16 → f (get_or x j 0) ≡ g (get_or (map inverse_s_box s) j 0)
table-entry f g s x bs ex same j lt =
    ap f (entry inverse_basis x s bs.size ex j lt) ∙ same (get_or s j 0) (AreBytes-at s bs.bytes j)
    ∙ ap g (sym (get_or-map inverse_s_box s j 0 0 (omega (arith, bs.size))))

abbrev pub moved : (ℕ → ℕ) → List ℕ → List ℕ
moved f x = map f (pick rows_shifted_back x)

abbrev pub next : List ℕ → List ℕ
next x = pick rows_next x

pub inverse_round-of : (f9 f13 f11 f14 : ℕ → ℕ) (s k x key : List ℕ) (bs : IsBlock s) (bk : IsBlock k) → x ≡ map inverse_basis s
    → key ≡ map inverse_basis k
    → ((b : ℕ) → b < 256 → f9 (inverse_basis b) ≡ bare_inverse (product 9 (inverse_s_box b)))
    → ((b : ℕ) → b < 256 → f13 (inverse_basis b) ≡ bare_inverse (product 13 (inverse_s_box b)))
    → ((b : ℕ) → b < 256 → f11 (inverse_basis b) ≡ bare_inverse (product 11 (inverse_s_box b)))
    → ((b : ℕ) → b < 256 → f14 (inverse_basis b) ≡ bare_inverse (product 14 (inverse_s_box b)))
    → zip2 bit_xor (zip2 bit_xor (next (zip2 bit_xor (next (zip2 bit_xor (next (moved f9 x)) (moved f13 x))) (moved f11 x)))
    (moved f14 x)) (pick bytes_in_place key)
    ≡ map inverse_basis (add_round_key (inverse_mix_columns (inverse_shift_rows (map inverse_s_box s))) (pick bytes_in_place k))
unfolding add_round_key inverse_mix_columns multiply_columns columns column word_product coefficient inverse_shift_rows state
    byte_at xor_bytes
inverse_round-of f9 f13 f11 f14 s k x key bs bk ex ek s9 s13 s11 s14 =
    let at = λ (j : ℕ). get_or (map inverse_s_box s) j 0 in
    let below = AreBytes-at (map inverse_s_box s) (IsBlock-unboxed s bs).bytes in
    let n = λ (j : ℕ) (lt : j < 16). table-entry f9 (λ b. bare_inverse (product 9 b)) s x bs ex s9 j lt in
    let t = λ (j : ℕ) (lt : j < 16). table-entry f13 (λ b. bare_inverse (product 13 b)) s x bs ex s13 j lt in
    let l = λ (j : ℕ) (lt : j < 16). table-entry f11 (λ b. bare_inverse (product 11 b)) s x bs ex s11 j lt in
    let f = λ (j : ℕ) (lt : j < 16). table-entry f14 (λ b. bare_inverse (product 14 b)) s x bs ex s14 j lt in
    let y = λ (j : ℕ) (lt : j < 16). entry inverse_basis key k bk.size ek j lt in
    let e0 =
    (λ i. bit_xor (bit_xor (bit_xor (bit_xor (n 7 (omega arith) i) (t 10 (omega arith) i)) (l 13 (omega arith) i))
    (f 0 (omega arith) i)) (y 0 (omega arith) i))
    ∙ back0 (at 0) (at 13) (at 10) (at 7) (get_or k 0 0) (below 0) (below 13) (below 10) (below 7) (AreBytes-at k bk.bytes 0) in
    let e1 =
    (λ i. bit_xor (bit_xor (bit_xor (bit_xor (n 0 (omega arith) i) (t 7 (omega arith) i)) (l 10 (omega arith) i))
    (f 13 (omega arith) i)) (y 1 (omega arith) i))
    ∙ back1 (at 13) (at 10) (at 7) (at 0) (get_or k 1 0) (below 13) (below 10) (below 7) (below 0) (AreBytes-at k bk.bytes 1) in
    let e2 =
    (λ i. bit_xor (bit_xor (bit_xor (bit_xor (n 13 (omega arith) i) (t 0 (omega arith) i)) (l 7 (omega arith) i))
    (f 10 (omega arith) i)) (y 2 (omega arith) i))
    ∙ back2 (at 10) (at 7) (at 0) (at 13) (get_or k 2 0) (below 10) (below 7) (below 0) (below 13) (AreBytes-at k bk.bytes 2) in
    let e3 =
    (λ i. bit_xor (bit_xor (bit_xor (bit_xor (n 10 (omega arith) i) (t 13 (omega arith) i)) (l 0 (omega arith) i))
    (f 7 (omega arith) i)) (y 3 (omega arith) i))
    ∙ back3 (at 7) (at 0) (at 13) (at 10) (get_or k 3 0) (below 7) (below 0) (below 13) (below 10) (AreBytes-at k bk.bytes 3) in
    let e4 =
    (λ i. bit_xor (bit_xor (bit_xor (bit_xor (n 11 (omega arith) i) (t 14 (omega arith) i)) (l 1 (omega arith) i))
    (f 4 (omega arith) i)) (y 4 (omega arith) i))
    ∙ back0 (at 4) (at 1) (at 14) (at 11) (get_or k 4 0) (below 4) (below 1) (below 14) (below 11) (AreBytes-at k bk.bytes 4) in
    let e5 =
    (λ i. bit_xor (bit_xor (bit_xor (bit_xor (n 4 (omega arith) i) (t 11 (omega arith) i)) (l 14 (omega arith) i))
    (f 1 (omega arith) i)) (y 5 (omega arith) i))
    ∙ back1 (at 1) (at 14) (at 11) (at 4) (get_or k 5 0) (below 1) (below 14) (below 11) (below 4) (AreBytes-at k bk.bytes 5) in
    let e6 =
    (λ i. bit_xor (bit_xor (bit_xor (bit_xor (n 1 (omega arith) i) (t 4 (omega arith) i)) (l 11 (omega arith) i))
    (f 14 (omega arith) i)) (y 6 (omega arith) i))
    ∙ back2 (at 14) (at 11) (at 4) (at 1) (get_or k 6 0) (below 14) (below 11) (below 4) (below 1) (AreBytes-at k bk.bytes 6) in
    let e7 =
    (λ i. bit_xor (bit_xor (bit_xor (bit_xor (n 14 (omega arith) i) (t 1 (omega arith) i)) (l 4 (omega arith) i))
    (f 11 (omega arith) i)) (y 7 (omega arith) i))
    ∙ back3 (at 11) (at 4) (at 1) (at 14) (get_or k 7 0) (below 11) (below 4) (below 1) (below 14) (AreBytes-at k bk.bytes 7) in
    let e8 =
    (λ i. bit_xor (bit_xor (bit_xor (bit_xor (n 15 (omega arith) i) (t 2 (omega arith) i)) (l 5 (omega arith) i))
    (f 8 (omega arith) i)) (y 8 (omega arith) i))
    ∙ back0 (at 8) (at 5) (at 2) (at 15) (get_or k 8 0) (below 8) (below 5) (below 2) (below 15) (AreBytes-at k bk.bytes 8) in
    let e9 =
    (λ i. bit_xor (bit_xor (bit_xor (bit_xor (n 8 (omega arith) i) (t 15 (omega arith) i)) (l 2 (omega arith) i))
    (f 5 (omega arith) i)) (y 9 (omega arith) i))
    ∙ back1 (at 5) (at 2) (at 15) (at 8) (get_or k 9 0) (below 5) (below 2) (below 15) (below 8) (AreBytes-at k bk.bytes 9) in
    let e10 =
    (λ i. bit_xor (bit_xor (bit_xor (bit_xor (n 5 (omega arith) i) (t 8 (omega arith) i)) (l 15 (omega arith) i))
    (f 2 (omega arith) i)) (y 10 (omega arith) i))
    ∙ back2 (at 2) (at 15) (at 8) (at 5) (get_or k 10 0) (below 2) (below 15) (below 8) (below 5) (AreBytes-at k bk.bytes 10) in
    let e11 =
    (λ i. bit_xor (bit_xor (bit_xor (bit_xor (n 2 (omega arith) i) (t 5 (omega arith) i)) (l 8 (omega arith) i))
    (f 15 (omega arith) i)) (y 11 (omega arith) i))
    ∙ back3 (at 15) (at 8) (at 5) (at 2) (get_or k 11 0) (below 15) (below 8) (below 5) (below 2) (AreBytes-at k bk.bytes 11) in
    let e12 =
    (λ i. bit_xor (bit_xor (bit_xor (bit_xor (n 3 (omega arith) i) (t 6 (omega arith) i)) (l 9 (omega arith) i))
    (f 12 (omega arith) i)) (y 12 (omega arith) i))
    ∙ back0 (at 12) (at 9) (at 6) (at 3) (get_or k 12 0) (below 12) (below 9) (below 6) (below 3) (AreBytes-at k bk.bytes 12) in
    let e13 =
    (λ i. bit_xor (bit_xor (bit_xor (bit_xor (n 12 (omega arith) i) (t 3 (omega arith) i)) (l 6 (omega arith) i))
    (f 9 (omega arith) i)) (y 13 (omega arith) i))
    ∙ back1 (at 9) (at 6) (at 3) (at 12) (get_or k 13 0) (below 9) (below 6) (below 3) (below 12) (AreBytes-at k bk.bytes 13) in
    let e14 =
    (λ i. bit_xor (bit_xor (bit_xor (bit_xor (n 9 (omega arith) i) (t 12 (omega arith) i)) (l 3 (omega arith) i))
    (f 6 (omega arith) i)) (y 14 (omega arith) i))
    ∙ back2 (at 6) (at 3) (at 12) (at 9) (get_or k 14 0) (below 6) (below 3) (below 12) (below 9) (AreBytes-at k bk.bytes 14) in
    let e15 =
    (λ i. bit_xor (bit_xor (bit_xor (bit_xor (n 6 (omega arith) i) (t 9 (omega arith) i)) (l 12 (omega arith) i))
    (f 3 (omega arith) i)) (y 15 (omega arith) i))
    ∙ back3 (at 3) (at 12) (at 9) (at 6) (get_or k 15 0) (below 3) (below 12) (below 9) (below 6) (AreBytes-at k bk.bytes 15) in
    λ i. e0 i ∷ e1 i ∷ e2 i ∷ e3 i ∷ e4 i ∷ e5 i ∷ e6 i ∷ e7 i ∷ e8 i ∷ e9 i ∷ e10 i ∷ e11 i ∷ e12 i ∷ e13 i ∷ e14 i ∷ e15 i ∷ []

pub inverse_last_round-of : (g : ℕ → ℕ) (s k x : List ℕ) (bs : IsBlock s) → x ≡ map inverse_basis s
    → ((b : ℕ) → b < 256 → g (inverse_basis b) ≡ inverse_s_box b)
    → zip2 bit_xor (moved g x) (pick bytes_in_place k) ≡ add_round_key (inverse_shift_rows (map inverse_s_box s)) (pick bytes_in_place k)
unfolding add_round_key inverse_shift_rows state byte_at xor_bytes
inverse_last_round-of g s k x bs ex same =
    let o = λ (j : ℕ) (lt : j < 16). table-entry g (λ b. b) s x bs ex same j lt in
    λ i. bit_xor (o 0 (omega arith) i) (get_or k 0 0) ∷ bit_xor (o 13 (omega arith) i) (get_or k 1 0)
    ∷ bit_xor (o 10 (omega arith) i) (get_or k 2 0) ∷ bit_xor (o 7 (omega arith) i) (get_or k 3 0)
    ∷ bit_xor (o 4 (omega arith) i) (get_or k 4 0) ∷ bit_xor (o 1 (omega arith) i) (get_or k 5 0)
    ∷ bit_xor (o 14 (omega arith) i) (get_or k 6 0) ∷ bit_xor (o 11 (omega arith) i) (get_or k 7 0)
    ∷ bit_xor (o 8 (omega arith) i) (get_or k 8 0) ∷ bit_xor (o 5 (omega arith) i) (get_or k 9 0)
    ∷ bit_xor (o 2 (omega arith) i) (get_or k 10 0) ∷ bit_xor (o 15 (omega arith) i) (get_or k 11 0)
    ∷ bit_xor (o 12 (omega arith) i) (get_or k 12 0) ∷ bit_xor (o 9 (omega arith) i) (get_or k 13 0)
    ∷ bit_xor (o 6 (omega arith) i) (get_or k 14 0) ∷ bit_xor (o 3 (omega arith) i) (get_or k 15 0) ∷ []

along : (s k : List ℕ) → length s ≡ length k → AreBytes s → AreBytes k
    → zip2 bit_xor (map bare_inverse s) (map inverse_basis k) ≡ map inverse_basis (xor_bytes s k)
unfolding xor_bytes
along [] k e hs hk = refl
along (x ∷ s) [] e hs hk = absurd (omega arith)
along (x ∷ s) (y ∷ k) e hs hk =
    let hx = All-head (λ b. b < 256) x s hs in let hy = All-head (λ b. b < 256) y k hk in
    let one = ap bare_inverse (xor_assoc x y 99) ∙ bare_inverse-xor x (bit_xor y 99) hx (offset y hy) in
    λ i. sym one i ∷ along s k (omega arith) (All-tail (λ b. b < 256) x s hs) (All-tail (λ b. b < 256) y k hk) i
  where
    offset : (y : ℕ) → y < 256 → bit_xor y 99 < 256
    offset y h = xor_lt 8 y 99 h (omega arith)

pub first_inverse-of : (s k xs key : List ℕ) → IsBlock s → IsBlock k → xs ≡ map bare_inverse s → key ≡ map inverse_basis k
    → zip2 bit_xor xs key ≡ map inverse_basis (add_round_key s k)
unfolding add_round_key
first_inverse-of s k xs key bs bk e f = (λ i. zip2 bit_xor (e i) (f i)) ∙ along s k (bs.size ∙ sym bk.size) bs.bytes bk.bytes
