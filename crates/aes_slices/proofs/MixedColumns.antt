-- MixColumns and its inverse by doubling and sums.
use Rattle.std.proofs.Common.{◌≡◌, ℕ, ◌<◌, List, [], ◌∷◌, map, get_or, bit_xor, ap, refl, sym, subst, ◌∙◌}
use Rattle.std.specs.Int.Bits.{xor_assoc}
use Rattle.std.proofs.lemmas.Nat.{xor_comm}
use Rattle.fips_197.specs.Bytes.{IsBlock, xor_bytes}
use Rattle.fips_197.specs.Field.{bit, terms_product, remainder, product}
use Rattle.fips_197.specs.State.{byte_at, column, columns}
use Rattle.fips_197.specs.WordPolynomial.{coefficient, word_product}
use Rattle.fips_197.specs.Cipher.{multiply_columns, mix_columns}
use Rattle.fips_197.specs.InverseCipher.{inverse_mix_columns}
use Rattle.fips_197.proofs.Checks.{same_below}
use Rattle.fips_197.proofs.FieldLaws.{product-xor}
use Rattle.fips_197.proofs.Blocks.{AreBytes-at, by_bytes}
use Rattle.aes_vector.specs.Rows.{pick}
use Rattle.aes_vector.proofs.Basis.{thrice, once_product, xor_left}
use Rattle.aes_slices.specs.Rows.{plane_rows_next, rows_after_next, in_rows}

turned : (a b c d : ℕ) → bit_xor (bit_xor (bit_xor a b) c) d ≡ bit_xor (bit_xor (bit_xor d a) b) c
turned a b c d = simp (xor_comm, xor_left)

-- ---- MixColumns

-- from the sum of a block and of its next rows
abbrev pub mixed_sum : List ℕ → List ℕ → List ℕ
mixed_sum next sum = xor_bytes (xor_bytes next (map (product 2) sum)) (pick rows_after_next sum)

gathered : (p2 q q2 r u : ℕ) → bit_xor (bit_xor q (bit_xor p2 q2)) (bit_xor r u) ≡ bit_xor (bit_xor (bit_xor p2 (bit_xor q2 q)) r) u
gathered p2 q q2 r u = simp (xor_comm, xor_assoc, xor_left)

-- a byte, from those of its column on
abbrev Cell : ℕ → ℕ → ℕ → ℕ → ℕ
Cell p q r u = bit_xor (bit_xor q (product 2 (bit_xor p q))) (bit_xor r u)

cell0 : (p q r u : ℕ) → q < 256 → r < 256 → u < 256
    → Cell p q r u ≡ bit_xor (bit_xor (bit_xor (product 2 p) (product 3 q)) (product 1 r)) (product 1 u)
cell0 p q r u hq hr hu =
    ap (λ t. bit_xor (bit_xor q t) (bit_xor r u)) (product-xor 2 p q)
    ∙ gathered (product 2 p) q (product 2 q) r u
    ∙ (λ i. bit_xor (bit_xor (bit_xor (product 2 p) (sym (thrice q hq) i)) (sym (once_product r hr) i)) (sym (once_product u hu) i))

cell1 : (p q r u : ℕ) → q < 256 → r < 256 → u < 256
    → Cell p q r u ≡ bit_xor (bit_xor (bit_xor (product 1 u) (product 2 p)) (product 3 q)) (product 1 r)
cell1 p q r u hq hr hu = cell0 p q r u hq hr hu ∙ turned (product 2 p) (product 3 q) (product 1 r) (product 1 u)

cell2 : (p q r u : ℕ) → q < 256 → r < 256 → u < 256
    → Cell p q r u ≡ bit_xor (bit_xor (bit_xor (product 1 r) (product 1 u)) (product 2 p)) (product 3 q)
cell2 p q r u hq hr hu = cell1 p q r u hq hr hu ∙ turned (product 1 u) (product 2 p) (product 3 q) (product 1 r)

cell3 : (p q r u : ℕ) → q < 256 → r < 256 → u < 256
    → Cell p q r u ≡ bit_xor (bit_xor (bit_xor (product 3 q) (product 1 r)) (product 1 u)) (product 2 p)
cell3 p q r u hq hr hu = cell2 p q r u hq hr hu ∙ turned (product 1 r) (product 1 u) (product 2 p) (product 3 q)

pub mixed-of : (x : List ℕ) → IsBlock x → mixed_sum (pick plane_rows_next (in_rows x)) (xor_bytes (in_rows x) (pick plane_rows_next (in_rows x)))
    ≡ in_rows (mix_columns x)
unfolding mix_columns multiply_columns columns column word_product coefficient byte_at xor_bytes
mixed-of x block =
    let at = λ (k : ℕ). get_or x k 0 in
    let below = AreBytes-at x block.bytes in
    let c0 = λ (p q r u : ℕ). cell0 (at p) (at q) (at r) (at u) (below q) (below r) (below u) in
    let c1 = λ (p q r u : ℕ). cell1 (at p) (at q) (at r) (at u) (below q) (below r) (below u) in
    let c2 = λ (p q r u : ℕ). cell2 (at p) (at q) (at r) (at u) (below q) (below r) (below u) in
    let c3 = λ (p q r u : ℕ). cell3 (at p) (at q) (at r) (at u) (below q) (below r) (below u) in
    subst (λ l. mixed_sum (pick plane_rows_next (in_rows l)) (xor_bytes (in_rows l) (pick plane_rows_next (in_rows l)))
    ≡ in_rows (mix_columns l)) (sym (by_bytes x block.size))
    (λ t. c0 0 1 2 3 t ∷ c0 4 5 6 7 t ∷ c0 8 9 10 11 t ∷ c0 12 13 14 15 t
    ∷ c1 1 2 3 0 t ∷ c1 5 6 7 4 t ∷ c1 9 10 11 8 t ∷ c1 13 14 15 12 t
    ∷ c2 2 3 0 1 t ∷ c2 6 7 4 5 t ∷ c2 10 11 8 9 t ∷ c2 14 15 12 13 t
    ∷ c3 3 0 1 2 t ∷ c3 7 4 5 6 t ∷ c3 11 8 9 10 t ∷ c3 15 12 13 14 t ∷ [])

-- ---- its inverse

abbrev Fourfold : ℕ → ℕ
Fourfold b = product 2 (product 2 b)

fourfold-xor : (a b : ℕ) → Fourfold (bit_xor a b) ≡ bit_xor (Fourfold a) (Fourfold b)
fourfold-xor a b = ap (product 2) (product-xor 2 a b) ∙ product-xor 2 (product 2 a) (product 2 b)

-- 3 p + 2 q
abbrev Light : ℕ → ℕ → ℕ
Light p q = bit_xor (product 2 (bit_xor p q)) p

-- 13 p + 9 q
abbrev Heavy : ℕ → ℕ → ℕ
Heavy p q = bit_xor (Fourfold (Light p q)) (bit_xor p q)

nine : (b : ℕ) → b < 256 → bit_xor (Fourfold (product 2 b)) b ≡ product 9 b
unfolding bit terms_product remainder product
nine b lt = same_below (λ b. bit_xor (Fourfold (product 2 b)) b) (product 9) 256 b refl lt

eleven : (b : ℕ) → b < 256 → bit_xor (product 9 b) (product 2 b) ≡ product 11 b
unfolding bit terms_product remainder product
eleven b lt = same_below (λ b. bit_xor (product 9 b) (product 2 b)) (product 11) 256 b refl lt

thirteen : (b : ℕ) → b < 256 → bit_xor (bit_xor (Fourfold (product 2 b)) (Fourfold b)) b ≡ product 13 b
unfolding bit terms_product remainder product
thirteen b lt = same_below (λ b. bit_xor (bit_xor (Fourfold (product 2 b)) (Fourfold b)) b) (product 13) 256 b refl lt

fourteen : (b : ℕ) → b < 256 → bit_xor (product 13 b) (bit_xor (product 2 b) b) ≡ product 14 b
unfolding bit terms_product remainder product
fourteen b lt = same_below (λ b. bit_xor (product 13 b) (bit_xor (product 2 b) b)) (product 14) 256 b refl lt

light-is : (p q : ℕ) → Light p q ≡ bit_xor (bit_xor (product 2 p) (product 2 q)) p
light-is p q = ap (λ t. bit_xor t p) (product-xor 2 p q)

grouped : (p8 q8 p4 p q : ℕ) → bit_xor (bit_xor (bit_xor p8 q8) p4) (bit_xor p q) ≡ bit_xor (bit_xor (bit_xor p8 p4) p) (bit_xor q8 q)
grouped p8 q8 p4 p q = simp (xor_comm, xor_assoc, xor_left)

heavy-is : (p q : ℕ) → p < 256 → q < 256 → Heavy p q ≡ bit_xor (product 13 p) (product 9 q)
heavy-is p q hp hq =
    ap (λ t. bit_xor (Fourfold t) (bit_xor p q)) (light-is p q)
    ∙ ap (λ t. bit_xor t (bit_xor p q)) (fourfold-xor (bit_xor (product 2 p) (product 2 q)) p
    ∙ ap (λ t. bit_xor t (Fourfold p)) (fourfold-xor (product 2 p) (product 2 q)))
    ∙ grouped (Fourfold (product 2 p)) (Fourfold (product 2 q)) (Fourfold p) p q
    ∙ (λ t. bit_xor (thirteen p hp t) (nine q hq t))

regrouped : (a b c d e f p : ℕ)
    → bit_xor (bit_xor (bit_xor a b) (bit_xor c d)) (bit_xor (bit_xor e f) p)
    ≡ bit_xor (bit_xor (bit_xor (bit_xor a (bit_xor e p)) (bit_xor b f)) c) d
regrouped a b c d e f p = simp (xor_comm, xor_assoc, xor_left)

-- a byte, from those of its column on
abbrev Back : ℕ → ℕ → ℕ → ℕ → ℕ
Back p q r u = bit_xor (bit_xor (Heavy p q) (Heavy r u)) (Light p q)

back0 : (p q r u : ℕ) → p < 256 → q < 256 → r < 256 → u < 256
    → Back p q r u ≡ bit_xor (bit_xor (bit_xor (product 14 p) (product 11 q)) (product 13 r)) (product 9 u)
back0 p q r u hp hq hr hu =
    (λ t. bit_xor (bit_xor (heavy-is p q hp hq t) (heavy-is r u hr hu t)) (light-is p q t))
    ∙ regrouped (product 13 p) (product 9 q) (product 13 r) (product 9 u) (product 2 p) (product 2 q) p
    ∙ (λ t. bit_xor (bit_xor (bit_xor (fourteen p hp t) (eleven q hq t)) (product 13 r)) (product 9 u))

back1 : (p q r u : ℕ) → p < 256 → q < 256 → r < 256 → u < 256
    → Back p q r u ≡ bit_xor (bit_xor (bit_xor (product 9 u) (product 14 p)) (product 11 q)) (product 13 r)
back1 p q r u hp hq hr hu = back0 p q r u hp hq hr hu ∙ turned (product 14 p) (product 11 q) (product 13 r) (product 9 u)

back2 : (p q r u : ℕ) → p < 256 → q < 256 → r < 256 → u < 256
    → Back p q r u ≡ bit_xor (bit_xor (bit_xor (product 13 r) (product 9 u)) (product 14 p)) (product 11 q)
back2 p q r u hp hq hr hu = back1 p q r u hp hq hr hu ∙ turned (product 9 u) (product 14 p) (product 11 q) (product 13 r)

back3 : (p q r u : ℕ) → p < 256 → q < 256 → r < 256 → u < 256
    → Back p q r u ≡ bit_xor (bit_xor (bit_xor (product 11 q) (product 13 r)) (product 9 u)) (product 14 p)
back3 p q r u hp hq hr hu = back2 p q r u hp hq hr hu ∙ turned (product 13 r) (product 9 u) (product 14 p) (product 11 q)

-- 3 p + 2 q of each byte p and the next row's q
abbrev pub light : List ℕ → List ℕ
light x = xor_bytes (map (product 2) (xor_bytes x (pick plane_rows_next x))) x

-- 13 p + 9 q
abbrev pub heavy : List ℕ → List ℕ
heavy x = xor_bytes (map (product 2) (map (product 2) (light x))) (xor_bytes x (pick plane_rows_next x))

abbrev pub back_sum : List ℕ → List ℕ
back_sum x = xor_bytes (xor_bytes (heavy x) (pick rows_after_next (heavy x))) (light x)

pub mixed_back-of : (x : List ℕ) → IsBlock x
    → back_sum (in_rows x) ≡ in_rows (inverse_mix_columns x)
unfolding inverse_mix_columns multiply_columns columns column word_product coefficient byte_at xor_bytes
mixed_back-of x block =
    let at = λ (k : ℕ). get_or x k 0 in
    let below = AreBytes-at x block.bytes in
    let b0 = λ (p q r u : ℕ). back0 (at p) (at q) (at r) (at u) (below p) (below q) (below r) (below u) in
    let b1 = λ (p q r u : ℕ). back1 (at p) (at q) (at r) (at u) (below p) (below q) (below r) (below u) in
    let b2 = λ (p q r u : ℕ). back2 (at p) (at q) (at r) (at u) (below p) (below q) (below r) (below u) in
    let b3 = λ (p q r u : ℕ). back3 (at p) (at q) (at r) (at u) (below p) (below q) (below r) (below u) in
    subst (λ l. back_sum (in_rows l) ≡ in_rows (inverse_mix_columns l)) (sym (by_bytes x block.size))
    (λ t. b0 0 1 2 3 t ∷ b0 4 5 6 7 t ∷ b0 8 9 10 11 t ∷ b0 12 13 14 15 t
    ∷ b1 1 2 3 0 t ∷ b1 5 6 7 4 t ∷ b1 9 10 11 8 t ∷ b1 13 14 15 12 t
    ∷ b2 2 3 0 1 t ∷ b2 6 7 4 5 t ∷ b2 10 11 8 9 t ∷ b2 14 15 12 13 t
    ∷ b3 3 0 1 2 t ∷ b3 7 4 5 6 t ∷ b3 11 8 9 10 t ∷ b3 15 12 13 14 t ∷ [])
