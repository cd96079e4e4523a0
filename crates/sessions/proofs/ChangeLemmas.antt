-- How a removal, a write or a test of a slab's values shows in the values by rising number.
use Rattle.std.proofs.Common.{◌≡◌, ℕ, zero, suc, ◌+◌, Bool, true, false, cond, not, ◌||◌, List, [], ◌∷◌, length, get_or, set, map, Option, Some, None, count_by, refl, sym, ap, subst, ◌∙◌, inl, inr, arith}
use Rattle.std.specs.Prelude.{find, filter}
use Rattle.std.specs.Option.{option_map}
use Rattle.std.specs.List.{AllByRecursion, list_any}
use Rattle.std.proofs.lemmas.Bool.{cases_Bool, lt-ltb, le-ltb, true≢false}
use Rattle.std.proofs.lemmas.List.Sums.{sum_by-cons}
use Rattle.slab.specs.Slab.{entries_from}
use Rattle.lists.specs.InOrder.{placed, in_order, NumbersRise}
use Rattle.lists.proofs.InOrderLemmas.{PassesOnce, placed-cases, All-placed, PassesOnce-placed, IsOrdered-in_order, filter-placed}

module _ {E : Type 0} (number : E → ℕ) where
  -- ---- a removal and a write
  pub at_slot : (P : E → Type 0) (slots : List (Option E)) (key : ℕ) (e : E) → get_or slots key None ≡ Some e
      → AllByRecursion P (in_order number slots) → P e
  at_slot P [] key e found all = absurd (cc)
  at_slot P (None ∷ slots) zero e found all = absurd (cc)
  at_slot P (Some x ∷ slots) zero e found all =
      let same : x ≡ e = cc in
      subst P same (All-placed number P x (in_order number slots) all).0
  at_slot P (None ∷ slots) (suc key) e found all = at_slot P slots key e found all
  at_slot P (Some x ∷ slots) (suc key) e found all = at_slot P slots key e found (All-placed number P x (in_order number slots) all).1

  filter_all : (test : E → Bool) (xs : List E) → AllByRecursion (λ x. test x ≡ false) xs → filter (λ x. not (test x)) xs ≡ xs
  filter_all test [] all = refl
  filter_all test (x ∷ xs) all = rw all.0 (ap (λ ys. x ∷ ys) (filter_all test xs all.1))

  -- the one value that passes is removed
  pub in_order-remove : (test : E → Bool) (slots : List (Option E)) (key : ℕ) (e : E) → get_or slots key None ≡ Some e
      → test e ≡ true → PassesOnce test (in_order number slots)
      → in_order number (set slots key None) ≡ filter (λ x. not (test x)) (in_order number slots)
  in_order-remove test [] key e found passes once = absurd (cc)
  in_order-remove test (None ∷ slots) zero e found passes once = absurd (cc)
  in_order-remove test (Some x ∷ slots) zero e found passes once =
      let same : x ≡ e = cc in
      let here : test x ≡ true = ap test same ∙ passes in
      let split = PassesOnce-placed number test x (in_order number slots) once in
      sym (filter-placed number (λ y. not (test y)) x (in_order number slots) (IsOrdered-in_order number slots)
      ∙ rw here (filter_all test (in_order number slots) (split.0 here)))
  in_order-remove test (None ∷ slots) (suc key) e found passes once = in_order-remove test slots key e found passes once
  in_order-remove test (Some x ∷ slots) (suc key) e found passes once =
      let split = PassesOnce-placed number test x (in_order number slots) once in
      let rest = in_order-remove test slots key e found passes split.1 in
      rw (rest, filter-placed number (λ y. not (test y)) x (in_order number slots) (IsOrdered-in_order number slots))
      (elim (cases_Bool (test x)) [
        | inl also ↦ absurd (true≢false (sym passes ∙ at_slot (λ y. test y ≡ false) slots key e found (split.0 also)))
        | inr fails ↦ rw fails refl
      ])

  map-placed : (f : E → E) → ((x : E) → number (f x) ≡ number x) → (e : E) (xs : List E)
      → map f (placed number e xs) ≡ placed number (f e) (map f xs)
  map-placed f keeps e [] = refl
  map-placed f keeps e (x ∷ xs) = elim (placed-cases number e x xs) [
    | inl here ↦ rw (here.1, keeps e, keeps x, lt-ltb (number e) (number x) here.0) refl
    | inr later ↦ rw (later.1, map-placed f keeps e xs, keeps e, keeps x, le-ltb (number e) (number x) later.0) refl
  ]

  pub in_order-map : (f : E → E) → ((x : E) → number (f x) ≡ number x) → (slots : List (Option E))
      → in_order number (map (option_map f) slots) ≡ map f (in_order number slots)
  in_order-map f keeps [] = refl
  in_order-map f keeps (None ∷ slots) = in_order-map f keeps slots
  in_order-map f keeps (Some x ∷ slots) = ap (placed number (f x)) (in_order-map f keeps slots)
      ∙ sym (map-placed f keeps x (in_order number slots))

  map_none : (test : E → Bool) (f : E → E) (xs : List E) → AllByRecursion (λ x. test x ≡ false) xs
      → map (λ x. cond (test x) (f x) x) xs ≡ xs
  map_none test f [] all = refl
  map_none test f (x ∷ xs) all = rw all.0 (ap (λ ys. x ∷ ys) (map_none test f xs all.1))

  pub keeps_number : (test : E → Bool) (f : E → E) → ((x : E) → number (f x) ≡ number x) → (x : E)
      → number (cond (test x) (f x) x) ≡ number x
  keeps_number test f keeps x = elim (test x) as (λ b. number (cond b (f x) x) ≡ number x) [ true ↦ keeps x | false ↦ refl ]

  -- the one value that passes is changed
  pub in_order-write : (test : E → Bool) (f : E → E) → ((x : E) → number (f x) ≡ number x)
      → (slots : List (Option E)) (key : ℕ) (e : E) → get_or slots key None ≡ Some e → test e ≡ true
      → PassesOnce test (in_order number slots)
      → in_order number (set slots key (Some (f e))) ≡ map (λ x. cond (test x) (f x) x) (in_order number slots)
  in_order-write test f keeps [] key e found passes once = absurd (cc)
  in_order-write test f keeps (None ∷ slots) zero e found passes once = absurd (cc)
  in_order-write test f keeps (Some x ∷ slots) zero e found passes once =
      let same : x ≡ e = cc in
      let here : test x ≡ true = ap test same ∙ passes in
      let split = PassesOnce-placed number test x (in_order number slots) once in
      rw (
        map-placed (λ y. cond (test y) (f y) y) (keeps_number test f keeps) x (in_order number slots),
        map_none test f (in_order number slots) (split.0 here),
        here,
        same,
      ) refl
  in_order-write test f keeps (None ∷ slots) (suc key) e found passes once = in_order-write test f keeps slots key e found passes once
  in_order-write test f keeps (Some x ∷ slots) (suc key) e found passes once =
      let split = PassesOnce-placed number test x (in_order number slots) once in
      let rest = in_order-write test f keeps slots key e found passes split.1 in
      rw (rest, map-placed (λ y. cond (test y) (f y) y) (keeps_number test f keeps) x (in_order number slots)) (elim (cases_Bool (test x)) [
        | inl also ↦ absurd (true≢false (sym passes ∙ at_slot (λ y. test y ≡ false) slots key e found (split.0 also)))
        | inr fails ↦ rw fails refl
      ])

  -- ---- tests of some or all
  any-placed : (test : E → Bool) (e : E) (xs : List E) → list_any test (placed number e xs) ≡ (test e || list_any test xs)
  any-placed test e [] = refl
  any-placed test e (x ∷ xs) = elim (placed-cases number e x xs) [
    | inl here ↦ rw here.1 refl
    | inr later ↦ rw (later.1, any-placed test e xs) (or_swap (test x) (test e) (list_any test xs))
  ] where
    or_swap : (a b c : Bool) → (a || (b || c)) ≡ (b || (a || c))
    or_swap true true c = refl
    or_swap true false c = refl
    or_swap false b c = refl

  pub any-in_order : (test : E → Bool) (key : ℕ) (slots : List (Option E))
      → list_any (λ e. test e.1) (entries_from key slots) ≡ list_any test (in_order number slots)
  any-in_order test key [] = refl
  any-in_order test key (None ∷ slots) = any-in_order test (key + 1) slots
  any-in_order test key (Some e ∷ slots) = ap (λ b. test e || b) (any-in_order test (key + 1) slots)
      ∙ sym (any-placed test e (in_order number slots))

  count-placed : (test : E → Bool) (e : E) (xs : List E) → count_by test (placed number e xs) ≡ cond (test e) 1 0 + count_by test xs
  count-placed test e [] = sum_by-cons (λ x. cond (test x) 1 0) e []
  count-placed test e (x ∷ xs) = elim (placed-cases number e x xs) [
    | inl here ↦ rw here.1 (sum_by-cons (λ y. cond (test y) 1 0) e (x ∷ xs))
    | inr later ↦ rw later.1 (omega (
      arith,
      sum_by-cons (λ y. cond (test y) 1 0) x (placed number e xs),
      sum_by-cons (λ y. cond (test y) 1 0) x xs,
      count-placed test e xs,
    ))
  ]

  pub count-in_order : (test : E → Bool) (key : ℕ) (slots : List (Option E))
      → length (filter (λ e. test e.1) (entries_from key slots)) ≡ count_by test (in_order number slots)
  count-in_order test key [] = refl
  count-in_order test key (None ∷ slots) = count-in_order test (key + 1) slots
  count-in_order test key (Some e ∷ slots) =
      let rest = count-in_order test (key + 1) slots in
      sym (count-placed test e (in_order number slots) ∙ elim (cases_Bool (test e)) [
        | inl passes ↦ rw passes (omega (arith, rest))
        | inr fails ↦ rw fails (omega (arith, rest))
      ])

  -- ---- rising numbers
  pub NumbersRise-map : (f : E → E) → ((x : E) → number (f x) ≡ number x) → (low next : ℕ) (xs : List E)
      → NumbersRise number low xs next → NumbersRise number low (map f xs) next
  NumbersRise-map f keeps low next [] rising = rising
  NumbersRise-map f keeps low next (x ∷ xs) rising = rw (keeps x) (rising.0, NumbersRise-map f keeps (number x + 1) next xs rising.1)

-- what a search of a slab's entries finds stands under its key, and passes
pub found_entry : {E : Type 0} (test : E → Bool) (first : ℕ) (slots : List (Option E)) (key : ℕ) (e : E)
    → find (λ x. test x.1) (entries_from first slots) ≡ Some (key, e) → (at : ℕ) × (key ≡ first + at)
    × (get_or slots at None ≡ Some e) × (test e ≡ true)
found_entry {E} test first [] key e found = absurd (cc)
found_entry {E} test first (None ∷ slots) key e found =
    let later = found_entry test (first + 1) slots key e found in
    (suc later.0, omega (arith, later.1), later.2, later.3)
found_entry {E} test first (Some x ∷ slots) key e found = elim (cases_Bool (test x)) [
  | inl passes ↦
      let same : ◌≡◌ {A = Option (ℕ × E)} (Some (first, x)) (Some (key, e)) = rw passes at found in
      let pair : ◌≡◌ {A = ℕ × E} (first, x) (key, e) = cc in
      (0, omega (arith, ap (λ p. p.0) pair), ap (λ p. Some p.1) pair, ap (λ p. test p.1) (sym pair) ∙ passes)
  | inr fails ↦
      let later = found_entry test (first + 1) slots key e (rw fails at found) in
      (suc later.0, omega (arith, later.1), later.2, later.3)
]
