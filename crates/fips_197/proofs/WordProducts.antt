-- The products of polynomials modulo x^4 + 1: by the columns of a matrix, through a sum, and those of the
-- two polynomials of the cipher, which undo each other.
use Rattle.std.proofs.Common.{◌≡◌, ℕ, ◌+◌, ◌*◌, ◌%◌, ◌<◌, ◌==◌, Bool, true, List, [], ◌∷◌, ◌++◌, get_or, bit_xor, ap, refl, sym, ◌∙◌}
use Rattle.std.specs.Prelude.{if◌then◌else◌}
use Rattle.std.specs.Int.Bits.{xor_zero_l, xor_zero_r}
use Rattle.std.proofs.lemmas.Nat.{xor_lt}
use Rattle.std.proofs.lemmas.Bool.{agree_below, agree_below_at}
use Rattle.fips_197.specs.Bytes.{AreBytes, IsBlock, xor_bytes}
use Rattle.fips_197.specs.Field.{bit, terms_product, remainder, product}
use Rattle.fips_197.specs.State.{byte_at, column, columns}
use Rattle.fips_197.specs.WordPolynomial.{coefficient, word_product, matrix_column, multiples}
use Rattle.fips_197.specs.Cipher.{multiply_columns, mix_polynomial}
use Rattle.fips_197.specs.InverseCipher.{inverse_mix_polynomial}
use Rattle.fips_197.proofs.FieldLaws.{swapped_middle, product-xor, product-lt}
use Rattle.fips_197.proofs.WordTests.{same_word, same_word-tells}
use Rattle.fips_197.proofs.Blocks.{AreBytes-at, AreBytes-four, IsBlock-columns, get_or-xor_bytes, by_bytes}

-- the product by the columns of the matrix of a
pub word_product-columns : (p : List ℕ) (a b c d : ℕ)
    → word_product p (a ∷ b ∷ c ∷ d ∷ [])
    ≡ xor_bytes (xor_bytes (xor_bytes (multiples (matrix_column p 0) a) (multiples (matrix_column p 1) b))
    (multiples (matrix_column p 2) c)) (multiples (matrix_column p 3) d)
unfolding word_product coefficient xor_bytes multiples matrix_column
word_product-columns p a b c d = refl

-- ---- a product is a word of bytes

coefficient-lt : (p : List ℕ) (a b c d i : ℕ) → a < 256 → b < 256 → c < 256 → d < 256 → coefficient p (a ∷ b ∷ c ∷ d ∷ []) i < 256
unfolding coefficient
coefficient-lt p a b c d i ha hb hc hd =
    xor_lt 8 _ _ (xor_lt 8 _ _ (xor_lt 8 _ _ (product-lt _ a ha) (product-lt _ b hb)) (product-lt _ c hc)) (product-lt _ d hd)

pub AreBytes-word_product : (p : List ℕ) (a b c d : ℕ) → a < 256 → b < 256 → c < 256 → d < 256
    → AreBytes (word_product p (a ∷ b ∷ c ∷ d ∷ []))
unfolding word_product
AreBytes-word_product p a b c d ha hb hc hd =
    let at = λ (i : ℕ). coefficient-lt p a b c d i ha hb hc hd in
    AreBytes-four _ _ _ _ (at 0) (at 1) (at 2) (at 3)

pub IsBlock-multiply_columns : (p s : List ℕ) → IsBlock s → IsBlock (multiply_columns p s)
unfolding multiply_columns word_product column byte_at
IsBlock-multiply_columns p s block =
    let at = AreBytes-at s block.bytes in
    IsBlock-columns _ (λ c. refl)
    (λ c. AreBytes-word_product p (byte_at s 0 c) (byte_at s 1 c) (byte_at s 2 c) (byte_at s 3 c) (at (0 + 4 * c))
    (at (1 + 4 * c)) (at (2 + 4 * c)) (at (3 + 4 * c)))

-- ---- a product goes through a sum

sum4 : ℕ → ℕ → ℕ → ℕ → ℕ
sum4 a b c d = bit_xor (bit_xor (bit_xor a b) c) d

sum4-xor : (a b c d e f g h : ℕ) → sum4 (bit_xor a e) (bit_xor b f) (bit_xor c g) (bit_xor d h)
    ≡ bit_xor (sum4 a b c d) (sum4 e f g h)
unfolding sum4
sum4-xor a b c d e f g h = sym
    (swapped_middle (bit_xor (bit_xor a b) c) d (bit_xor (bit_xor e f) g) h
    ∙ ap (λ x. bit_xor x (bit_xor d h)) (swapped_middle (bit_xor a b) c (bit_xor e f) g
    ∙ ap (λ x. bit_xor x (bit_xor c g)) (swapped_middle a b e f)))

coefficient-xor : (p : List ℕ) (a b c d e f g h i : ℕ)
    → coefficient p (bit_xor a e ∷ bit_xor b f ∷ bit_xor c g ∷ bit_xor d h ∷ []) i
    ≡ bit_xor (coefficient p (a ∷ b ∷ c ∷ d ∷ []) i) (coefficient p (e ∷ f ∷ g ∷ h ∷ []) i)
unfolding coefficient sum4
coefficient-xor p a b c d e f g h i =
    let at = λ (k : ℕ). get_or p (k % 4) 0 in
    (λ t. sum4 (product-xor (at i) a e t) (product-xor (at (i + 3)) b f t) (product-xor (at (i + 2)) c g t)
    (product-xor (at (i + 1)) d h t))
    ∙ sum4-xor (product (at i) a) (product (at (i + 3)) b) (product (at (i + 2)) c) (product (at (i + 1)) d)
    (product (at i) e) (product (at (i + 3)) f) (product (at (i + 2)) g) (product (at (i + 1)) h)

word_product-xor : (p : List ℕ) (a b c d e f g h : ℕ)
    → word_product p (xor_bytes (a ∷ b ∷ c ∷ d ∷ []) (e ∷ f ∷ g ∷ h ∷ []))
    ≡ xor_bytes (word_product p (a ∷ b ∷ c ∷ d ∷ [])) (word_product p (e ∷ f ∷ g ∷ h ∷ []))
unfolding word_product xor_bytes
word_product-xor p a b c d e f g h =
    let at = coefficient-xor p a b c d e f g h in
    λ t. at 0 t ∷ at 1 t ∷ at 2 t ∷ at 3 t ∷ []

pub multiply_columns-xor : (p s t : List ℕ) → IsBlock s → IsBlock t
    → multiply_columns p (xor_bytes s t) ≡ xor_bytes (multiply_columns p s) (multiply_columns p t)
unfolding multiply_columns columns column byte_at word_product xor_bytes
multiply_columns-xor p s t hs ht =
    let sum = λ (i : ℕ). get_or-xor_bytes s t i (hs.size ∙ sym ht.size) in
    let at = λ (c : ℕ). coefficient-xor p (get_or s (4 * c) 0) (get_or s (1 + 4 * c) 0) (get_or s (2 + 4 * c) 0)
    (get_or s (3 + 4 * c) 0)
    (get_or t (4 * c) 0) (get_or t (1 + 4 * c) 0) (get_or t (2 + 4 * c) 0) (get_or t (3 + 4 * c) 0) in
    (λ i. columns (λ c. word_product p (sum (0 + 4 * c) i ∷ sum (1 + 4 * c) i ∷ sum (2 + 4 * c) i ∷ sum (3 + 4 * c) i ∷ [])))
    ∙ (λ i. columns (λ c. at c 0 i ∷ at c 1 i ∷ at c 2 i ∷ at c 3 i ∷ []))

-- ---- two polynomials whose product is 1

-- the word with x at index k and zeros beside it
unfoldable alone : ℕ → ℕ → List ℕ
alone k x = (if k == 0 then x else 0) ∷ (if k == 1 then x else 0) ∷ (if k == 2 then x else 0) ∷ (if k == 3 then x else 0) ∷ []

-- whether p times q times a byte at index k leaves it, for each byte
unfoldable undoes_at : List ℕ → List ℕ → ℕ → Bool
undoes_at p q k = agree_below (λ x. same_word (word_product p (multiples (matrix_column q k) x)) (alone k x)) (λ _. true) 256

-- p times q is 1: at each index
pub record Undoes (p q : List ℕ) : Type 0 where
  at0 : undoes_at p q 0 ≡ true
  at1 : undoes_at p q 1 ≡ true
  at2 : undoes_at p q 2 ≡ true
  at3 : undoes_at p q 3 ≡ true

undone-at : (p q : List ℕ) (k x : ℕ) → undoes_at p q k ≡ true → x < 256
    → word_product p (multiples (matrix_column q k) x) ≡ alone k x
unfolding undoes_at word_product multiples matrix_column alone
undone-at p q k x h lt =
    same_word-tells _ _ _ _ _ _ _ _
    (agree_below_at (λ b. same_word (word_product p (multiples (matrix_column q k) b)) (alone k b)) (λ _. true) 256 x h lt)

together : (a b c d : ℕ) → xor_bytes (xor_bytes (xor_bytes (alone 0 a) (alone 1 b)) (alone 2 c)) (alone 3 d) ≡ a ∷ b ∷ c ∷ d ∷ []
unfolding xor_bytes alone
together a b c d =
    let first : bit_xor (bit_xor (bit_xor a 0) 0) 0 ≡ a = xor_zero_r _ ∙ xor_zero_r _ ∙ xor_zero_r a in
    let second : bit_xor (bit_xor (bit_xor 0 b) 0) 0 ≡ b = xor_zero_r _ ∙ xor_zero_r _ ∙ xor_zero_l b in
    let third : bit_xor (bit_xor (bit_xor 0 0) c) 0 ≡ c = xor_zero_r _ ∙ xor_zero_l c in
    λ i. first i ∷ second i ∷ third i ∷ xor_zero_l d i ∷ []

word_product-undone : (p q : List ℕ) (a b c d : ℕ) → Undoes p q → a < 256 → b < 256 → c < 256 → d < 256
    → word_product p (word_product q (a ∷ b ∷ c ∷ d ∷ [])) ≡ a ∷ b ∷ c ∷ d ∷ []
unfolding multiples matrix_column xor_bytes
word_product-undone p q a b c d h ha hb hc hd =
    ap (word_product p) (word_product-columns q a b c d)
    ∙ word_product-xor p _ _ _ _ _ _ _ _
    ∙ ap (λ l. xor_bytes l (word_product p (multiples (matrix_column q 3) d))) (word_product-xor p _ _ _ _ _ _ _ _
    ∙ ap (λ l. xor_bytes l (word_product p (multiples (matrix_column q 2) c))) (word_product-xor p _ _ _ _ _ _ _ _))
    ∙ (λ i. xor_bytes (xor_bytes (xor_bytes (undone-at p q 0 a h.at0 ha i) (undone-at p q 1 b h.at1 hb i))
    (undone-at p q 2 c h.at2 hc i)) (undone-at p q 3 d h.at3 hd i))
    ∙ together a b c d

-- and so on whole states
pub multiply_columns-undone : (p q s : List ℕ) → Undoes p q → IsBlock s → multiply_columns p (multiply_columns q s) ≡ s
unfolding multiply_columns columns column byte_at word_product
multiply_columns-undone p q s h block =
    let at = AreBytes-at s block.bytes in
    let one = λ (a b c d : ℕ). word_product-undone p q (get_or s a 0) (get_or s b 0) (get_or s c 0) (get_or s d 0) h
    (at a) (at b) (at c) (at d) in
    (λ i. one 0 1 2 3 i ++ (one 4 5 6 7 i ++ (one 8 9 10 11 i ++ one 12 13 14 15 i))) ∙ sym (by_bytes s block.size)

pub mix-undoes-inverse : Undoes mix_polynomial inverse_mix_polynomial
unfolding undoes_at same_word alone word_product coefficient multiples matrix_column bit terms_product remainder product
mix-undoes-inverse = record { at0 = refl; at1 = refl; at2 = refl; at3 = refl }

pub inverse-undoes-mix : Undoes inverse_mix_polynomial mix_polynomial
unfolding undoes_at same_word alone word_product coefficient multiples matrix_column bit terms_product remainder product
inverse-undoes-mix = record { at0 = refl; at1 = refl; at2 = refl; at3 = refl }
