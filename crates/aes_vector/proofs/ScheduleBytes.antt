-- The key schedule in bytes, one word more at each turn of a loop.
use Rattle.std.proofs.Common.{◌≡◌, ℕ, suc, ◌+◌, ◌-◌, ◌*◌, ◌/◌, ◌<◌, ◌≤◌, List, [], ◌∷◌, ◌++◌, length, take, drop, get_or, ap, sym, ◌∙◌, arith}
use Rattle.std.proofs.lemmas.List.{drop-take, take-take, drop_all}
use Rattle.fips_197.specs.Bytes.{xor_bytes}
use Rattle.fips_197.specs.KeyExpansion.{word_count, round_count, word, expansion_term, expanded_words, key_expansion}
use Rattle.fips_197.proofs.Blocks.{four_more}

-- a word by its bytes
pub four_bytes : (w : List ℕ) → length w ≡ 4 → w ≡ get_or w 0 0 ∷ get_or w 1 0 ∷ get_or w 2 0 ∷ get_or w 3 0 ∷ []
four_bytes w size =
    four_more w 0 (omega arith) ∙ ap (λ l. get_or w 0 0 ∷ get_or w 1 0 ∷ get_or w 2 0 ∷ get_or w 3 0 ∷ l) (drop_all 4 w (omega arith))

-- a word that is there
word-there : (s : List ℕ) (i j : ℕ) → j < i → word (take (4 * i) s) j ≡ word s j
unfolding word
word-there s i j lt =
    let m : ℕ = 4 * i - 4 * j in
    let sum : 4 * i ≡ 4 * j + m = omega arith in
    ap (λ n. take 4 (drop (4 * j) (take n s))) sum ∙ ap (take 4) (drop-take (4 * j) m s)
    ∙ take-take 4 m (drop (4 * j) s) (omega arith)

-- a word after the key's
pub expanded_word-step : (key s : List ℕ) (nk i : ℕ) (w x : List ℕ) → 1 ≤ nk → nk ≤ i
    → take (4 * i) s ≡ expanded_words key nk (i - nk)
    → w ≡ xor_bytes (word s (i - nk)) x → x ≡ expansion_term nk i (word s (i - 1))
    → take (4 * i) s ++ w ≡ expanded_words key nk (i + 1 - nk)
unfolding expanded_words
expanded_word-step key s nk i w x some low so_far sum term =
    let n : ℕ = i - nk in
    let e : List ℕ = expanded_words key nk n in
    let next : i + 1 - nk ≡ suc n = omega arith in
    let here : nk + n ≡ i = omega arith in
    let first : word e n ≡ word s n = ap (λ l. word l n) (sym so_far) ∙ word-there s i n (omega arith) in
    let last : word e (nk + n - 1) ≡ word s (i - 1) =
    ap (λ k. word e (k - 1)) here ∙ ap (λ l. word l (i - 1)) (sym so_far) ∙ word-there s i (i - 1) (omega arith) in
    (λ t. so_far t ++ (sum ∙ (λ u. xor_bytes (sym first u) (term u))) t)
    ∙ (λ t. e ++ xor_bytes (word e n) (expansion_term nk (sym here t) (sym last t)))
    ∙ ap (expanded_words key nk) (sym next)

pub key_expansion-end : (key s : List ℕ) (nk i : ℕ) → nk ≡ length key / 4 → i ≡ 4 * (nk + 7)
    → take (4 * i) s ≡ expanded_words key nk (i - nk) → take (16 * (round_count key + 1)) s ≡ key_expansion key
unfolding key_expansion word_count round_count
key_expansion-end key s nk i e end so_far =
    let m : ℕ = length key / 4 in
    let size : 16 * (m + 6 + 1) ≡ 4 * i = omega arith in
    let all : i ≡ 4 * (m + 6 + 1) = omega arith in
    ap (λ k. take k s) size ∙ so_far ∙ (λ t. expanded_words key (e t) (all t - e t))
