-- All the steps: lengths, and no two values have one wrapping.
use Rattle.std.proofs.Common.{◌≡◌, ℕ, zero, suc, ◌+◌, ◌*◌, ◌/◌, ◌<◌, ◌≤◌, List, ◌++◌, length, drop, ap, refl, sym, ◌∙◌, arith, lit<}
use Rattle.std.proofs.lemmas.List.{length-append, length-drop, get_or-replicate, take-append-drop}
use Rattle.std.proofs.lemmas.List.Elements.{All-append, All-from_get_or}
use Rattle.fips_197.specs.Bytes.{AreBytes}
use Rattle.fips_197.specs.KeyExpansion.{IsKey}
use Rattle.aes_kw.specs.KeyWrap.{half, step, after_steps, initial_value, IsValue, wrapped}
use Rattle.aes_kw.proofs.Rows.{half-first}
use Rattle.aes_kw.proofs.Steps.{length-step, AreBytes-step}

AreBytes-initial_value : AreBytes initial_value
AreBytes-initial_value =
    All-from_get_or (λ b. b < 256) initial_value 0 (λ i lt. rw (get_or-replicate {A = ℕ} 8 i 0xA6 0 lt) (lit< tt))

-- ---- the registers that wrapping begins with

pub length-start : (x : List ℕ) → IsValue x → length (initial_value ++ x) ≡ 8 * (length x / 8) + 8
length-start x h = length-append initial_value x ∙ omega (arith, h.whole)

pub AreBytes-start : (x : List ℕ) → IsValue x → AreBytes (initial_value ++ x)
AreBytes-start x h = All-append (λ b. b < 256) initial_value x AreBytes-initial_value h.bytes

-- ---- after some steps

module _ (key : List ℕ) (is_key : IsKey key) (n : ℕ) (some : 1 ≤ n) (x : List ℕ) (bytes : AreBytes x) (size : length x ≡ 8 * n + 8) where
  after_both : (t : ℕ) → AreBytes (after_steps key n x t) × (length (after_steps key n x t) ≡ 8 * n + 8)
  unfolding after_steps
  after_both zero = (bytes, size)
  after_both (suc t) =
      let before = after_both t in (
        AreBytes-step key n (suc t) some is_key (after_steps key n x t) before.0 before.1,
        length-step key n (suc t) some is_key (after_steps key n x t) before.0 before.1,
      )

  pub AreBytes-after_steps : (t : ℕ) → AreBytes (after_steps key n x t)
  AreBytes-after_steps t = let both = after_both t in both.0

  pub length-after_steps : (t : ℕ) → length (after_steps key n x t) ≡ 8 * n + 8
  length-after_steps t = let both = after_both t in both.1

pub length-wrapped : (key x : List ℕ) → IsKey key → IsValue x → length (wrapped key x) ≡ length x + 8
unfolding wrapped
length-wrapped key x is_key h =
    let n : ℕ = length x / 8 in
    length-after_steps key is_key n (omega (arith, h.least)) (initial_value ++ x) (AreBytes-start x h) (length-start x h) (6 * n)
    ∙ omega (arith, h.whole)

-- the steps of a value, where n is counted otherwise
pub wrapped-steps : (key x : List ℕ) (n : ℕ) → length x / 8 ≡ n → wrapped key x ≡ after_steps key n (initial_value ++ x) (6 * n)
unfolding wrapped
wrapped-steps key x n count = ap (λ m. after_steps key m (initial_value ++ x) (6 * m)) count

-- the value of registers that begin with the initial value
pub wrapped-row : (key row bytes : List ℕ) (n : ℕ) → length row ≡ 8 * n + 8 → half row 0 ≡ initial_value
    → after_steps key n row (6 * n) ≡ bytes
    → wrapped key (drop 8 row) ≡ bytes
unfolding half
wrapped-row key row bytes n size first is =
    let count : length (drop 8 row) / 8 ≡ n = omega (arith, length-drop 8 row) in
    wrapped-steps key (drop 8 row) n count
    ∙ ap (λ r. after_steps key n r (6 * n)) (ap (λ l. l ++ drop 8 row) (sym first) ∙ take-append-drop 8 row) ∙ is

-- before the first step
pub start : (key : List ℕ) (n : ℕ) (x : List ℕ) → after_steps key n x 0 ≡ x
unfolding after_steps
start key n x = refl

-- ---- unwrapping, a step further

module _ (key : List ℕ) (n t s : ℕ) (next : t ≡ suc s) (old new : List ℕ) where
  pub back-more : (x : List ℕ) → step key n t new ≡ old → after_steps key n x s ≡ new → after_steps key n x t ≡ old
  unfolding after_steps
  back-more x is before =
      ap (after_steps key n x) next ∙ ap (step key n (suc s)) before ∙ ap (λ k. step key n k new) (sym next) ∙ is

  pub only-more : (x : List ℕ) → IsKey key → 1 ≤ n → AreBytes x → length x ≡ 8 * n + 8
      → ((y : List ℕ) → AreBytes y → length y ≡ 8 * n + 8 → step key n t y ≡ old → y ≡ new)
      → after_steps key n x t ≡ old → after_steps key n x s ≡ new
  unfolding after_steps
  only-more x is_key some bytes size only is =
      only (after_steps key n x s) (AreBytes-after_steps key is_key n some x bytes size s)
      (length-after_steps key is_key n some x bytes size s)
      (ap (λ k. step key n k (after_steps key n x s)) next ∙ sym (ap (after_steps key n x) next) ∙ is)

-- the registers that a value's wrapping comes from
pub row-from-wrapped : (key row bytes x : List ℕ) (n : ℕ) → IsKey key → length bytes ≡ 8 * n + 8 → IsValue x
    → ((y : List ℕ) → AreBytes y → length y ≡ 8 * n + 8 → after_steps key n y (6 * n) ≡ bytes → y ≡ row)
    → wrapped key x ≡ bytes → initial_value ++ x ≡ row
row-from-wrapped key row bytes x n is_key size value only is =
    let count : length x / 8 ≡ n = omega (arith, length-wrapped key x is_key value, ap length is) in
    only (initial_value ++ x) (AreBytes-start x value) (length-start x value ∙ omega arith)
    (sym (wrapped-steps key x n count) ∙ is)

-- begin with the initial value, and the value is behind it
pub first-from-start : (row x : List ℕ) → initial_value ++ x ≡ row → half row 0 ≡ initial_value
first-from-start row x is = ap (λ r. half r 0) (sym is) ∙ half-first initial_value x refl

pub rest-from-start : (row x : List ℕ) → initial_value ++ x ≡ row → x ≡ drop 8 row
rest-from-start row x is = ap (drop 8) is
