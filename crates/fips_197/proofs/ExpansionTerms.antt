-- The cases of the term that the key expansion adds.
use Rattle.std.proofs.Common.{◌≡◌, ℕ, ◌/◌, ◌%◌, ◌<◌, ◌≤◌, List, ◌==◌, ◌&&◌, nat_lt, cond, eq-eqb, lt-ltb, ◌∙◌}
use Rattle.std.proofs.lemmas.Bool.{ne_eqb, le-ltb, cond-true, cond-false, and_from, and_left, and_right}
use Rattle.fips_197.specs.Bytes.{xor_bytes}
use Rattle.fips_197.specs.Cipher.{substitute_bytes}
use Rattle.fips_197.specs.KeyExpansion.{rotate_word, round_constant, expansion_term}

module _ (nk i : ℕ) (before : List ℕ) where
  -- the term where i isn't a multiple of nk
  other : List ℕ
  other = cond (nat_lt 6 nk && (i % nk == 4)) (substitute_bytes before) before

  pub at_multiple : i % nk ≡ 0 → expansion_term nk i before
      ≡ xor_bytes (substitute_bytes (rotate_word before)) (round_constant (i / nk))
  unfolding expansion_term other
  at_multiple h = cond-true (i % nk == 0)
      (xor_bytes (substitute_bytes (rotate_word before)) (round_constant (i / nk))) other (eq-eqb (i % nk) 0 h)

  elsewhere : (i % nk ≡ 0 → ⊥) → expansion_term nk i before ≡ other
  unfolding expansion_term other
  elsewhere h = cond-false (i % nk == 0)
      (xor_bytes (substitute_bytes (rotate_word before)) (round_constant (i / nk))) other (ne_eqb (i % nk) 0 h)

  pub at_fourth : (i % nk ≡ 0 → ⊥) → 6 < nk → i % nk ≡ 4 → expansion_term nk i before ≡ substitute_bytes before
  unfolding other
  at_fourth h long fourth =
      elsewhere h ∙ cond-true (nat_lt 6 nk && (i % nk == 4)) (substitute_bytes before) before
      (and_from (nat_lt 6 nk) (i % nk == 4) (lt-ltb 6 nk long) (eq-eqb (i % nk) 4 fourth))

  pub at_other : (i % nk ≡ 0 → ⊥) → (i % nk ≡ 4 → ⊥) → expansion_term nk i before ≡ before
  unfolding other
  at_other h fourth =
      elsewhere h ∙ cond-false (nat_lt 6 nk && (i % nk == 4)) (substitute_bytes before) before
      (and_right (nat_lt 6 nk) (i % nk == 4) (ne_eqb (i % nk) 4 fourth))

  pub at_short_key : (i % nk ≡ 0 → ⊥) → nk ≤ 6 → expansion_term nk i before ≡ before
  unfolding other
  at_short_key h short =
      elsewhere h ∙ cond-false (nat_lt 6 nk && (i % nk == 4)) (substitute_bytes before) before
      (and_left (nat_lt 6 nk) (i % nk == 4) (le-ltb 6 nk short))
