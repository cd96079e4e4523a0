-- The key schedule: its length, its bytes, and each of its words.
use Rattle.std.proofs.Common.{◌≡◌, ℕ, zero, suc, ◌+◌, ◌-◌, ◌*◌, ◌/◌, ◌%◌, ◌<◌, ◌≤◌, ◌==◌, ◌&&◌, nat_lt, List, ◌++◌, length, take, drop, get_or, ap, refl, sym, ◌∙◌, arith, inl, inr}
use Rattle.std.proofs.lemmas.List.{length-append, take-append-le, take_all, drop-append-le, drop_at, length-take-le, length-drop}
use Rattle.std.proofs.lemmas.Bool.{cond_both, cases_lt}
use Rattle.std.proofs.lemmas.List.Elements.{All-take, All-drop}
use Rattle.fips_197.specs.Bytes.{AreBytes, IsBlock, xor_bytes}
use Rattle.fips_197.specs.Cipher.{substitute_bytes, round_key}
use Rattle.fips_197.specs.KeyExpansion.{IsKeyLength, IsKey, word_count, round_count, word, rotate_word, power_of_x, round_constant, expansion_term, expanded_words, key_expansion}
use Rattle.fips_197.specs.Encrypt.{encrypted_block}
use Rattle.fips_197.proofs.FieldLaws.{product-lt}
use Rattle.fips_197.proofs.Blocks.{AreBytes-at, AreBytes-four, AreBytes-append, AreBytes-xor_bytes, length-xor_bytes}
use Rattle.fips_197.proofs.Steps.{AreBytes-substitute_bytes, length-substitute_bytes}
use Rattle.fips_197.proofs.Inverses.{IsBlock-cipher}

-- four bytes
record IsWord (w : List ℕ) : Type 0 where
  size : length w ≡ 4
  bytes : AreBytes w

IsWord-xor_bytes : (v w : List ℕ) → IsWord v → IsWord w → IsWord (xor_bytes v w)
IsWord-xor_bytes v w hv hw =
    let same : length v ≡ length w = hv.size ∙ sym hw.size in
    record { size = length-xor_bytes v w same ∙ hv.size; bytes = AreBytes-xor_bytes v w same hv.bytes hw.bytes }

IsWord-substitute_bytes : (w : List ℕ) → IsWord w → IsWord (substitute_bytes w)
IsWord-substitute_bytes w h = record { size = length-substitute_bytes w ∙ h.size; bytes = AreBytes-substitute_bytes w h.bytes }

IsWord-rotate_word : (w : List ℕ) → IsWord w → IsWord (rotate_word w)
unfolding rotate_word
IsWord-rotate_word w h =
    let at = AreBytes-at w h.bytes in
    record {
      size = refl;
      bytes = AreBytes-four (get_or w 1 0) (get_or w 2 0) (get_or w 3 0) (get_or w 0 0) (at 1)
          (at 2) (at 3) (at 0);
    }

power_of_x-lt : (n : ℕ) → power_of_x n < 256
unfolding power_of_x
power_of_x-lt zero = omega arith
power_of_x-lt (suc n) = product-lt 2 (power_of_x n) (power_of_x-lt n)

IsWord-round_constant : (i : ℕ) → IsWord (round_constant i)
unfolding round_constant
IsWord-round_constant i =
    record {
      size = refl;
      bytes = AreBytes-four (power_of_x (i - 1)) 0 0 0 (power_of_x-lt (i - 1)) (omega arith)
          (omega arith) (omega arith);
    }

IsWord-expansion_term : (nk i : ℕ) (w : List ℕ) → IsWord w → IsWord (expansion_term nk i w)
unfolding expansion_term
IsWord-expansion_term nk i w h =
    let substituted : IsWord (substitute_bytes w) = IsWord-substitute_bytes w h in
    let rotated : IsWord (xor_bytes (substitute_bytes (rotate_word w)) (round_constant (i / nk))) =
    IsWord-xor_bytes (substitute_bytes (rotate_word w)) (round_constant (i / nk))
    (IsWord-substitute_bytes (rotate_word w) (IsWord-rotate_word w h)) (IsWord-round_constant (i / nk)) in
    cond_both (i % nk == 0) _ _ IsWord (λ _. rotated)
    (λ _. cond_both (nat_lt 6 nk && (i % nk == 4)) (substitute_bytes w) w IsWord (λ _. substituted) (λ _. h))

IsWord-word : (w : List ℕ) (i : ℕ) → AreBytes w → 4 * i + 4 ≤ length w → IsWord (word w i)
unfolding word
IsWord-word w i bytes h = record {
  size = length-take-le 4 (drop (4 * i) w) (omega (arith, length-drop (4 * i) w));
  bytes = All-take (λ b. b < 256) 4 (drop (4 * i) w) (All-drop (λ b. b < 256) (4 * i) w bytes);
}

-- a word of the first of two sequences
word-append : (v w : List ℕ) (i : ℕ) → 4 * i + 4 ≤ length v → word (v ++ w) i ≡ word v i
unfolding word
word-append v w i h =
    ap (take 4) (drop-append-le (4 * i) v w (omega arith))
    ∙ take-append-le 4 (drop (4 * i) v) w (omega (arith, length-drop (4 * i) v))

-- the first word of the second
word-after : (v w : List ℕ) (i : ℕ) → length v ≡ 4 * i → length w ≡ 4 → word (v ++ w) i ≡ w
unfolding word
word-after v w i hv hw = ap (take 4) (drop_at v w (4 * i) hv) ∙ take_all 4 w (omega arith)

-- ---- the words that a key of nk words is expanded to

-- a sequence of n words
record AreWords (w : List ℕ) (n : ℕ) : Type 0 where
  size : length w ≡ 4 * n
  bytes : AreBytes w

module _ (key : List ℕ) (nk : ℕ) (some : 1 ≤ nk) (whole : AreWords key nk) where
  -- word nk + n
  next_word : ℕ → List ℕ
  next_word n =
      let w : List ℕ = expanded_words key nk n in
      xor_bytes (word w n) (expansion_term nk (nk + n) (word w (nk + n - 1)))

  IsWord-next_word : (n : ℕ) → AreWords (expanded_words key nk n) (nk + n) → IsWord (next_word n)
  unfolding next_word
  IsWord-next_word n h =
      let w : List ℕ = expanded_words key nk n in
      IsWord-xor_bytes (word w n) (expansion_term nk (nk + n) (word w (nk + n - 1)))
      (IsWord-word w n h.bytes (omega (arith, h.size)))
      (IsWord-expansion_term nk (nk + n) (word w (nk + n - 1)) (IsWord-word w (nk + n - 1) h.bytes (omega (arith, h.size))))

  AreWords-expanded_words : (n : ℕ) → AreWords (expanded_words key nk n) (nk + n)
  unfolding expanded_words next_word
  AreWords-expanded_words zero = record {
    size = whole.size ∙ (let none : 4 * nk ≡ 4 * (nk + 0) = omega arith in none);
    bytes = whole.bytes;
  }
  AreWords-expanded_words (suc n) =
      let before : AreWords (expanded_words key nk n) (nk + n) = AreWords-expanded_words n in
      let added : IsWord (next_word n) = IsWord-next_word n before in
      record {
        size = omega (arith, length-append (expanded_words key nk n) (next_word n), before.size, added.size);
        bytes = AreBytes-append (expanded_words key nk n) (next_word n) before.bytes added.bytes;
      }

  -- a word stays as it is once it is there
  word-expanded_words : (n m i : ℕ) → m ≤ n → i < nk + m → word (expanded_words key nk n) i ≡ word (expanded_words key nk m) i
  unfolding expanded_words next_word
  word-expanded_words zero m i le lt = let none : 0 ≡ m = omega arith in ap (λ k. word (expanded_words key nk k) i) none
  word-expanded_words (suc n) m i le lt = elim (cases_lt n m) [
    | inl last ↦ let same : suc n ≡ m = omega arith in ap (λ k. word (expanded_words key nk k) i) same
    | inr before ↦ word-append (expanded_words key nk n) (next_word n) i
        (omega (arith, (AreWords-expanded_words n).size)) ∙ word-expanded_words n m i before lt
  ]

  -- the recurrence of the key expansion
  word-recurrence : (n m : ℕ) → m < n
      → word (expanded_words key nk n) (nk + m)
      ≡ xor_bytes (word (expanded_words key nk n) m) (expansion_term nk (nk + m) (word (expanded_words key nk n) (nk + m - 1)))
  unfolding expanded_words next_word
  word-recurrence n m lt =
      let before : AreWords (expanded_words key nk m) (nk + m) = AreWords-expanded_words m in
      word-expanded_words n (suc m) (nk + m) lt (omega arith)
      ∙ word-after (expanded_words key nk m) (next_word m) (nk + m) before.size (IsWord-next_word m before).size
      ∙ (λ i. xor_bytes (sym (word-expanded_words n m m (omega arith) (omega arith)) i)
      (expansion_term nk (nk + m) (sym (word-expanded_words n m (nk + m - 1) (omega arith) (omega arith)) i)))

-- ---- the key schedule

pub round_count-bounds : (key : List ℕ) → IsKeyLength (length key) → (10 ≤ round_count key) × (round_count key ≤ 14)
unfolding round_count word_count
round_count-bounds key h = (omega arith, omega arith)

AreWords-key : (key : List ℕ) → IsKey key → AreWords key (word_count key)
unfolding word_count
AreWords-key key h = record { size = omega (arith, h.size); bytes = h.bytes }

AreWords-key_expansion : (key : List ℕ) → IsKey key → AreWords (key_expansion key) (4 * (round_count key + 1))
unfolding key_expansion round_count word_count
AreWords-key_expansion key h =
    let nk : ℕ = length key / 4 in
    let all : AreWords (expanded_words key nk (4 * (nk + 6 + 1) - nk)) (nk + (4 * (nk + 6 + 1) - nk)) =
    AreWords-expanded_words key nk (omega (arith, h.size)) (AreWords-key key h) (4 * (nk + 6 + 1) - nk) in
    record { size = omega (arith, all.size); bytes = all.bytes }

-- its first words are the key's
pub key_expansion-first : (key : List ℕ) (i : ℕ) → IsKey key → i < word_count key → word (key_expansion key) i ≡ word key i
unfolding key_expansion round_count word_count expanded_words
key_expansion-first key i h lt =
    let nk : ℕ = length key / 4 in
    word-expanded_words key nk (omega (arith, h.size)) (AreWords-key key h) (4 * (nk + 6 + 1) - nk) 0 i (omega arith) (omega arith)

-- and each further word w[i] is w[i - Nk] with the term of w[i - 1] added
pub key_expansion-further : (key : List ℕ) (i : ℕ) → IsKey key → word_count key ≤ i → i < 4 * (round_count key + 1)
    → word (key_expansion key) i
    ≡ xor_bytes (word (key_expansion key) (i - word_count key))
    (expansion_term (word_count key) i (word (key_expansion key) (i - 1)))
unfolding key_expansion round_count word_count
key_expansion-further key i h low high =
    let nk : ℕ = length key / 4 in
    let back : nk + (i - nk) ≡ i = omega arith in
    let recurrence = word-recurrence key nk (omega (arith, h.size)) (AreWords-key key h) (4 * (nk + 6 + 1) - nk)
    (i - nk) (omega arith) in
    rw back at recurrence

-- each round key is a block
pub IsBlock-round_key : (key : List ℕ) (r : ℕ) → IsKey key → r ≤ round_count key → IsBlock (round_key (key_expansion key) r)
unfolding round_key
IsBlock-round_key key r h le =
    let w : List ℕ = key_expansion key in
    let all : AreWords w (4 * (round_count key + 1)) = AreWords-key_expansion key h in
    record {
      size = length-take-le 16 (drop (16 * r) w) (omega (arith, length-drop (16 * r) w, all.size));
      bytes = All-take (λ b. b < 256) 16 (drop (16 * r) w) (All-drop (λ b. b < 256) (16 * r) w all.bytes);
    }

-- a block is encrypted to a block
pub IsBlock-encrypted_block : (key block : List ℕ) → IsKey key → IsBlock block → IsBlock (encrypted_block key block)
unfolding encrypted_block
IsBlock-encrypted_block key block hk hb =
    IsBlock-cipher (key_expansion key) (round_count key) (λ r le. IsBlock-round_key key r hk le)
    (omega (arith, round_count-bounds key hk.size)) block hb
