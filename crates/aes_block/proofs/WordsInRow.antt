-- Words in a row, by their bytes.
use Rattle.std.proofs.Common.{◌≡◌, ℕ, zero, suc, ◌+◌, ◌*◌, ◌/◌, ◌%◌, ◌^◌, ◌<◌, ◌≤◌, List, [], ◌∷◌, ◌++◌, length, take, drop, get_or, ap, refl, sym, subst, ◌∙◌, arith}
use Rattle.std.proofs.lemmas.List.{drop_more}
use Rattle.std.proofs.lemmas.List.Elements.{All-nil}
use Rattle.fips_197.specs.Bytes.{AreBytes}
use Rattle.fips_197.specs.State.{byte_at, column, columns}
use Rattle.fips_197.specs.WordPolynomial.{word_product}
use Rattle.fips_197.specs.Cipher.{multiply_columns, round_key}
use Rattle.fips_197.specs.KeyExpansion.{word}
use Rattle.fips_197.specs.InverseCipher.{inverse_mix_polynomial, inverse_mix_columns}
use Rattle.aes_block.specs.Words.{word_bytes, words_bytes, state_bytes}
use Rattle.aes_block.specs.declared.state.State.{State}
use Rattle.fips_197.proofs.Blocks.{AreBytes-append, four_more}
use Rattle.aes_block.proofs.RoundWords.{AreBytes-word_bytes}

drop-nil : (n : ℕ) → drop {A = ℕ} n [] ≡ []
drop-nil zero = refl
drop-nil (suc n) = refl

take-nil : (n : ℕ) → take {A = ℕ} n [] ≡ []
take-nil zero = refl
take-nil (suc n) = refl

words_bytes-cons : (w : ℕ) (ws : List ℕ) → words_bytes (w ∷ ws) ≡ word_bytes w ++ words_bytes ws
unfolding words_bytes word_bytes
words_bytes-cons w ws = refl

pub AreBytes-words_bytes : (ws : List ℕ) → AreBytes (words_bytes ws)
unfolding words_bytes
AreBytes-words_bytes [] = All-nil (λ b. b < 256)
AreBytes-words_bytes (w ∷ ws) =
    subst AreBytes (sym (words_bytes-cons w ws))
    (AreBytes-append (word_bytes w) (words_bytes ws) (AreBytes-word_bytes w) (AreBytes-words_bytes ws))

pub length-words_bytes : (ws : List ℕ) → length (words_bytes ws) ≡ 4 * length ws
unfolding words_bytes
length-words_bytes [] = refl
length-words_bytes (w ∷ ws) = omega (arith, length-words_bytes ws)

pub drop-words_bytes : (n : ℕ) (ws : List ℕ) → drop (4 * n) (words_bytes ws) ≡ words_bytes (drop n ws)
unfolding words_bytes
drop-words_bytes zero ws = refl
drop-words_bytes (suc n) [] = drop-nil (4 * suc n)
drop-words_bytes (suc n) (w ∷ ws) =
    let four : 4 * suc n ≡ suc (suc (suc (suc (4 * n)))) = omega arith in
    rw four (drop-words_bytes n ws)

pub take-words_bytes : (n : ℕ) (ws : List ℕ) → take (4 * n) (words_bytes ws) ≡ words_bytes (take n ws)
unfolding words_bytes
take-words_bytes zero ws = refl
take-words_bytes (suc n) [] = take-nil (4 * suc n)
take-words_bytes (suc n) (w ∷ ws) =
    let four : 4 * suc n ≡ suc (suc (suc (suc (4 * n)))) = omega arith in
    rw four (ap (λ l. (w / 2 ^ 24 % 2 ^ 8) ∷ (w / 2 ^ 16 % 2 ^ 8) ∷ (w / 2 ^ 8 % 2 ^ 8) ∷ (w % 2 ^ 8) ∷ l) (take-words_bytes n ws))

pub words_bytes-push : (ws : List ℕ) (w : ℕ) → words_bytes (ws ++ w ∷ []) ≡ words_bytes ws ++ word_bytes w
unfolding words_bytes word_bytes
words_bytes-push [] w = refl
words_bytes-push (v ∷ ws) w =
    ap (λ l. (v / 2 ^ 24 % 2 ^ 8) ∷ (v / 2 ^ 16 % 2 ^ 8) ∷ (v / 2 ^ 8 % 2 ^ 8) ∷ (v % 2 ^ 8) ∷ l) (words_bytes-push ws w)

first_word : (w : ℕ) (ws : List ℕ) → take 4 (words_bytes (w ∷ ws)) ≡ word_bytes w
unfolding words_bytes word_bytes
first_word w ws = refl

-- word i of the bytes is word i
pub word-words_bytes : (ws : List ℕ) (i : ℕ) → i < length ws → word (words_bytes ws) i ≡ word_bytes (get_or ws i 0)
unfolding word
word-words_bytes ws i lt =
    ap (take 4) (drop-words_bytes i ws ∙ ap words_bytes (drop_more ws i 0 lt)) ∙ first_word (get_or ws i 0) (drop (i + 1) ws)

first_state : (a b c d : ℕ) (ws : List ℕ) → word_bytes a ++ (word_bytes b ++ (word_bytes c ++ word_bytes d))
    ≡ take 16 (words_bytes (a ∷ b ∷ c ∷ d ∷ ws))
unfolding word_bytes words_bytes
first_state a b c d ws = refl

-- the round key of round r is four words
pub round_key-words_bytes : (ws : List ℕ) (r : ℕ) (k : State) → 4 * r + 4 ≤ length ws
    → k.0 ≡ get_or ws (4 * r) 0 → k.1 ≡ get_or ws (4 * r + 1) 0 → k.2 ≡ get_or ws (4 * r + 2) 0 → k.3 ≡ get_or ws (4 * r + 3) 0
    → state_bytes k ≡ round_key (words_bytes ws) r
unfolding state_bytes round_key
round_key-words_bytes ws r k h e0 e1 e2 e3 =
    let sixteen : 4 * (4 * r) ≡ 16 * r = omega arith in
    let from : drop (16 * r) (words_bytes ws) ≡ words_bytes (k.0 ∷ k.1 ∷ k.2 ∷ k.3 ∷ drop (4 * r + 4) ws) =
    ap (λ n. drop n (words_bytes ws)) (sym sixteen) ∙ drop-words_bytes (4 * r) ws ∙ ap words_bytes (four_more ws (4 * r) h)
    ∙ (λ i. words_bytes (sym e0 i ∷ sym e1 i ∷ sym e2 i ∷ sym e3 i ∷ drop (4 * r + 4) ws)) in
    first_state k.0 k.1 k.2 k.3 (drop (4 * r + 4) ws) ∙ ap (take 16) (sym from)

mixed_words : (p : List ℕ) (k : State)
    → word_product p (word_bytes k.0) ++
    (word_product p (word_bytes k.1) ++ (word_product p (word_bytes k.2) ++ word_product p (word_bytes k.3)))
    ≡ multiply_columns p (state_bytes k)
unfolding multiply_columns columns column byte_at state_bytes word_bytes
mixed_words p k = refl

-- a round key each of whose words is mixed inversely
pub inverse_mixed-round_key : (ws us : List ℕ) (r : ℕ) → 4 * r + 4 ≤ length ws → 4 * r + 4 ≤ length us
    → ((k : ℕ) → 4 * r ≤ k → k < 4 * r + 4 → word_bytes (get_or us k 0)
    ≡ word_product inverse_mix_polynomial (word_bytes (get_or ws k 0)))
    → round_key (words_bytes us) r ≡ inverse_mix_columns (round_key (words_bytes ws) r)
unfolding inverse_mix_columns state_bytes
inverse_mixed-round_key ws us r lw lu mixed =
    let k : State = record {
      0 = get_or ws (4 * r) 0;
      1 = get_or ws (4 * r + 1) 0;
      2 = get_or ws (4 * r + 2) 0;
      3 =
          get_or ws (4 * r + 3) 0;
    } in
    let u : State = record {
      0 = get_or us (4 * r) 0;
      1 = get_or us (4 * r + 1) 0;
      2 = get_or us (4 * r + 2) 0;
      3 =
          get_or us (4 * r + 3) 0;
    } in
    sym (round_key-words_bytes us r u lu refl refl refl refl)
    ∙ (λ i. mixed (4 * r) (omega arith) (omega arith) i ++ (mixed (4 * r + 1) (omega arith) (omega arith) i
    ++ (mixed (4 * r + 2) (omega arith) (omega arith) i ++ mixed (4 * r + 3) (omega arith) (omega arith) i)))
    ∙ mixed_words inverse_mix_polynomial k
    ∙ ap (multiply_columns inverse_mix_polynomial) (round_key-words_bytes ws r k lw refl refl refl refl)
