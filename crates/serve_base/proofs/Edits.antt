-- A list whose keys rise, edited at the index where a bisection found a key.
use Rattle.std.proofs.Common.{◌≡◌, ℕ, zero, suc, ◌<◌, List, [], ◌∷◌, ◌++◌, length, get_or, map, set, take, drop, Some, None, refl, sym, ap, subst, ◌∙◌, inl, inr, arith}
use Rattle.std.specs.Prelude.{find, ◌==◌, if◌then◌else◌}
use Rattle.std.specs.List.{AllByRecursion}
use Rattle.std.proofs.lemmas.Bool.{cases_eq, eq-eqb, ne_eqb}
use Rattle.std.proofs.lemmas.List.{take_at}
use Rattle.std.proofs.lemmas.List.Elements.{All-from_recursion, All-get_or}
use Rattle.lists.specs.Bisection.{KeysRise}

module _ {E : Type 0} (key : E → ℕ) where
  -- what is found has the key
  pub found-key : (k : ℕ) (hs : List E) (x : E) → find (λ h. key h == k) hs ≡ Some x → key x ≡ k
  found-key k [] x found = absurd cc
  found-key k (h ∷ hs) x found = elim (cases_eq (key h) k) [
    | inl is ↦ let same : Some h ≡ Some x = rw (eq-eqb (key h) k is) at found in let e : h ≡ x = cc in ap key (sym e) ∙ is
    | inr differ ↦ found-key k hs x (rw (ne_eqb (key h) k differ) at found)
  ]

  -- what comes after the first has a greater key
  above : (h : E) (hs : List E) (at : ℕ) (d : E) → KeysRise key (h ∷ hs) → at < length hs → key h < key (get_or hs at d)
  above h hs at d rise lt = All-get_or (λ x. key h < key x) hs at d lt (All-from_recursion (λ x. key h < key x) hs rise.0)

  -- no greater key is this one
  all-left : (f : E → E) (k : ℕ) (hs : List E) → AllByRecursion (λ x. k < key x) hs → map (λ h. if key h == k then f h else h) hs ≡ hs
  all-left f k [] all = refl
  all-left f k (h ∷ hs) all = let lt : k < key h = all.0 in
      rw (ne_eqb (key h) k (λ is. omega (arith, is))) (ap (λ xs. h ∷ xs) (all-left f k hs all.1))

  -- what stands at the index becomes another
  pub written-at : (f : E → E) (k : ℕ) (hs : List E) (at : ℕ) (x : E) → KeysRise key hs → at < length hs
      → ((d : E) → key (get_or hs at d) ≡ k) → x ≡ get_or hs at x → set hs at (f x) ≡ map (λ h. if key h == k then f h else h) hs
  written-at f k [] at x rise lt is read = absurd (omega (arith, lt))
  written-at f k (h ∷ hs) zero x rise lt is read =
      let here : key h ≡ k = is h in
      let this : x ≡ h = read in
      rw (eq-eqb (key h) k here, this)
      (ap (λ xs. f h ∷ xs) (sym (all-left f k hs (subst (λ n. AllByRecursion (λ y. n < key y) hs) here rise.0))))
  written-at f k (h ∷ hs) (suc at) x rise lt is read =
      let within : at < length hs = omega (arith, lt) in
      let there : key (get_or hs at h) ≡ k = is h in
      rw (ne_eqb (key h) k (λ same. omega (arith, same, there, above h hs at h rise within)))
      (ap (λ xs. h ∷ xs) (written-at f k hs at x rise.1 within is read))

  -- no key is this one
  pub absent-left : (f : E → E) (k : ℕ) (hs : List E) → find (λ h. key h == k) hs ≡ None → hs ≡ map (λ h. if key h == k then f h else h) hs
  absent-left f k [] none = refl
  absent-left f k (h ∷ hs) none = elim (cases_eq (key h) k) [
    | inl is ↦ let some : Some h ≡ None = rw (eq-eqb (key h) k is) at none in absurd cc
    | inr differ ↦ rw (ne_eqb (key h) k differ) (ap (λ xs. h ∷ xs) (absent-left f k hs (rw (ne_eqb (key h) k differ) at none)))
  ]

-- a list that was lent for writing, back in the place of another one of its length
pub written-back : {E : Type 0} (new old : List E) (n : ℕ) → length new ≡ n → take n (new ++ drop (length new) old) ≡ new
written-back new old n size = take_at new (drop (length new) old) n size
