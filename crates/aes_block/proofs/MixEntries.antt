-- The entries of the tables of rows.
use Rattle.std.proofs.Common.{◌≡◌, ℕ, zero, suc, ◌<◌, ◌∙◌, ◌&&◌, Bool, true, List, [], get_or, ap, refl, arith}
use Rattle.std.proofs.lemmas.Bool.{agree_below, agree_below_at, and_parts}
use Rattle.fips_197.specs.Field.{bit, terms_product, remainder, product}
use Rattle.fips_197.specs.SBox.{s_box, inverse_s_box}
use Rattle.fips_197.specs.Cipher.{mix_polynomial}
use Rattle.fips_197.specs.InverseCipher.{inverse_mix_polynomial}
use Rattle.fips_197.specs.WordPolynomial.{matrix_column, multiples}
use Rattle.aes_block.specs.Words.{word_bytes}
use Rattle.aes_block.specs.declared.tables.TheConstants.{S_BOX, INVERSE_S_BOX, MIXED_ROWS, INVERSE_MIXED_ROWS}
use Rattle.fips_197.proofs.WordTests.{same_word, same_word-tells}
use Rattle.aes_block.proofs.SBoxEntries.{S_BOX-at, INVERSE_S_BOX-at}

-- whether each entry of the table t is the column j of the matrix of a times the box's byte
unfoldable is_table : List ℕ → List ℕ → List ℕ → ℕ → Bool
is_table t box a j = agree_below
    (λ k. same_word (word_bytes (get_or t k 0)) (multiples (matrix_column a j) (get_or box k 0))) (λ _. true) 256

entry-of : (t box a : List ℕ) (j x : ℕ) → is_table t box a j ≡ true → x < 256
    → word_bytes (get_or t x 0) ≡ multiples (matrix_column a j) (get_or box x 0)
unfolding is_table multiples matrix_column word_bytes
entry-of t box a j x h lt =
    same_word-tells _ _ _ _ _ _ _ _
    (agree_below_at (λ k. same_word (word_bytes (get_or t k 0)) (multiples (matrix_column a j) (get_or box k 0)))
    (λ _. true) 256 x h lt)

four_cases : (P : ℕ → Type 0) → P 0 → P 1 → P 2 → P 3 → (r : ℕ) → r < 4 → P r
four_cases P p0 p1 p2 p3 zero lt = p0
four_cases P p0 p1 p2 p3 (suc zero) lt = p1
four_cases P p0 p1 p2 p3 (suc (suc zero)) lt = p2
four_cases P p0 p1 p2 p3 (suc (suc (suc zero))) lt = p3
four_cases P p0 p1 p2 p3 (suc (suc (suc (suc r)))) lt = absurd (omega arith)

-- whether the rows are those of the polynomial a
unfoldable are_rows : List (List ℕ) → List ℕ → List ℕ → Bool
are_rows rows box a = is_table (get_or rows 0 []) box a 0 && (is_table (get_or rows 1 []) box a 1
    && (is_table (get_or rows 2 []) box a 2 && is_table (get_or rows 3 []) box a 3))

row-of : (rows : List (List ℕ)) (box a : List ℕ) (r x : ℕ) → are_rows rows box a ≡ true → r < 4 → x < 256
    → word_bytes (get_or (get_or rows r []) x 0) ≡ multiples (matrix_column a r) (get_or box x 0)
unfolding are_rows
row-of rows box a r x h in4 lt =
    let at = λ (j : ℕ). is_table (get_or rows j []) box a j in
    let one = and_parts (at 0) (at 1 && (at 2 && at 3)) h in
    let two = and_parts (at 1) (at 2 && at 3) one.1 in
    let three = and_parts (at 2) (at 3) two.1 in
    entry-of (get_or rows r []) box a r x (four_cases (λ j. at j ≡ true) one.0 two.0 three.0 three.1 r in4) lt

MIXED_ROWS-checked : are_rows MIXED_ROWS S_BOX mix_polynomial ≡ true
unfolding are_rows is_table same_word word_bytes multiples matrix_column bit terms_product remainder product
MIXED_ROWS-checked = refl

pub MIXED_ROWS-at : (r x : ℕ) → r < 4 → x < 256 → word_bytes (get_or (get_or MIXED_ROWS r []) x 0)
    ≡ multiples (matrix_column mix_polynomial r) (s_box x)
MIXED_ROWS-at r x in4 lt =
    row-of MIXED_ROWS S_BOX mix_polynomial r x MIXED_ROWS-checked in4 lt
    ∙ ap (multiples (matrix_column mix_polynomial r)) (S_BOX-at x lt)

INVERSE_MIXED_ROWS-checked : are_rows INVERSE_MIXED_ROWS INVERSE_S_BOX inverse_mix_polynomial ≡ true
unfolding are_rows is_table same_word word_bytes multiples matrix_column bit terms_product remainder product
INVERSE_MIXED_ROWS-checked = refl

pub INVERSE_MIXED_ROWS-at : (r x : ℕ) → r < 4 → x < 256
    → word_bytes (get_or (get_or INVERSE_MIXED_ROWS r []) x 0)
    ≡ multiples (matrix_column inverse_mix_polynomial r) (inverse_s_box x)
INVERSE_MIXED_ROWS-at r x in4 lt =
    row-of INVERSE_MIXED_ROWS INVERSE_S_BOX inverse_mix_polynomial r x INVERSE_MIXED_ROWS-checked in4 lt
    ∙ ap (multiples (matrix_column inverse_mix_polynomial r)) (INVERSE_S_BOX-at x lt)
