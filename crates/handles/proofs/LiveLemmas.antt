-- What is done to a list of which some entries are gone, and to those that aren't.
use Rattle.std.proofs.Common.{◌≡◌, ℕ, zero, suc, ◌+◌, ◌<◌, ◌≤◌, Bool, true, false, cond, not, List, [], ◌∷◌, ◌++◌, length, get_or, set, Option, Some, None, refl, sym, ap, subst, ◌∙◌, inl, inr, arith}
use Rattle.std.specs.Prelude.{find, filter, ◌==◌, ◌&&◌, if◌then◌else◌}
use Rattle.std.specs.List.{AllByRecursion}
use Rattle.std.proofs.lemmas.Bool.{cases_Bool, cases_eq, lt-ltb, le-ltb, eq-eqb, ne_eqb}
use Rattle.std.proofs.lemmas.List.Elements.{All-from_recursion, All-get_or}
use Rattle.lists.specs.Bisection.{KeysRise}
use Rattle.lists.specs.InOrder.{placed, NumbersRise}
use Rattle.lists.proofs.InOrderLemmas.{All-filter, All-weaken, placed-cases}
use Rattle.handles.specs.Live.{live}

-- what is read at an index is what stands there whatever the default
pub item-at : {S : Type 0} (r : Option S) (xs : List S) (at : ℕ) (e : S) → ((d : S) → r ≡ Some (get_or xs at d))
    → e ≡ get_or xs at e → (d : S) → get_or xs at d ≡ e
item-at r xs at e each is d = let same : Some (get_or xs at d) ≡ Some (get_or xs at e) = sym (each d) ∙ each e in
    let k : get_or xs at d ≡ get_or xs at e = cc in k ∙ sym is

-- ---- rising keys
module _ {S : Type 0} (key : S → ℕ) where
  All-set : (P : ℕ → Type 0) (xs : List S) (at : ℕ) (s : S) → ((d : S) → key (get_or xs at d) ≡ key s)
      → AllByRecursion (λ x. P (key x)) xs → AllByRecursion (λ x. P (key x)) (set xs at s)
  All-set P [] at s same all = tt
  All-set P (x ∷ xs) zero s same all = (subst P (same x) all.0, all.1)
  All-set P (x ∷ xs) (suc at) s same all = (all.0, All-set P xs at s same all.1)

  pub KeysRise-set : (xs : List S) (at : ℕ) (s : S) → ((d : S) → key (get_or xs at d) ≡ key s) → KeysRise key xs
      → KeysRise key (set xs at s)
  KeysRise-set [] at s same rise = tt
  KeysRise-set (x ∷ xs) zero s same rise = (subst (λ n. AllByRecursion (λ y. n < key y) xs) (same x) rise.0, rise.1)
  KeysRise-set (x ∷ xs) (suc at) s same rise = (All-set (λ n. key x < n) xs at s same rise.0, KeysRise-set xs at s same rise.1)

  pub NumbersRise-set : (low next : ℕ) (xs : List S) (at : ℕ) (s : S) → ((d : S) → key (get_or xs at d) ≡ key s)
      → NumbersRise key low xs next → NumbersRise key low (set xs at s) next
  NumbersRise-set low next [] at s same rise = rise
  NumbersRise-set low next (x ∷ xs) zero s same rise =
      (subst (λ n. low ≤ n) (same x) rise.0, subst (λ n. NumbersRise key (n + 1) xs next) (same x) rise.1)
  NumbersRise-set low next (x ∷ xs) (suc at) s same rise = (rise.0, NumbersRise-set (key x + 1) next xs at s same rise.1)

  pub KeysRise-filter : (test : S → Bool) (xs : List S) → KeysRise key xs → KeysRise key (filter test xs)
  KeysRise-filter test [] rise = tt
  KeysRise-filter test (x ∷ xs) rise =
      let rest = KeysRise-filter test xs rise.1 in
      elim (cases_Bool (test x)) [
        | inl passes ↦ rw passes (All-filter (λ y. key x < key y) test xs rise.0, rest)
        | inr fails ↦ rw fails rest
      ]

  -- what comes after the first has a greater key
  above_first : (x : S) (xs : List S) (at : ℕ) (d : S) → KeysRise key (x ∷ xs) → at < length xs → key x < key (get_or xs at d)
  above_first x xs at d rise lt = All-get_or (λ y. key x < key y) xs at d lt (All-from_recursion (λ y. key x < key y) xs rise.0)

  placed-All : (P : S → Type 0) (e : S) (xs : List S) → P e → AllByRecursion P xs → AllByRecursion P (placed key e xs)
  placed-All P e [] one all = (one, tt)
  placed-All P e (x ∷ xs) one all = elim (placed-cases key e x xs) [
    | inl here ↦ rw here.1 (one, all)
    | inr later ↦ rw later.1 (all.0, placed-All P e xs one all.1)
  ]

  pub KeysRise-placed : (e : S) (xs : List S) → find (λ x. key x == key e) xs ≡ None → KeysRise key xs → KeysRise key (placed key e xs)
  KeysRise-placed e [] none rise = (tt, tt)
  KeysRise-placed e (x ∷ xs) none rise = elim (placed-cases key e x xs) [
    | inl here ↦ rw here.1 (
      (
        here.0,
        All-weaken (λ y. key x < key y) (λ y. key e < key y) (λ y lt. omega (arith, lt, here.0)) xs rise.0,
      ),
      rise,
    )
    | inr later ↦ elim (cases_eq (key x) (key e)) [
      | inl is ↦ let some : Some x ≡ None = rw (eq-eqb (key x) (key e) is) at none in absurd cc
      | inr differ ↦
          let below : key x < key e = omega (arith, later.0, differ) in
          rw later.1 (
            placed-All (λ y. key x < key y) e xs below rise.0,
            KeysRise-placed e xs (rw (ne_eqb (key x) (key e) differ) at none) rise.1,
          )
    ]
  ]

  placed-first : (e : S) (xs : List S) → AllByRecursion (λ x. key e < key x) xs → placed key e xs ≡ e ∷ xs
  placed-first e [] above = refl
  placed-first e (x ∷ xs) above = rw (lt-ltb (key e) (key x) above.0) refl

  -- no greater key is this one
  all-kept : (k : ℕ) (xs : List S) → AllByRecursion (λ x. k < key x) xs → filter (λ x. not (key x == k)) xs ≡ xs
  all-kept k [] all = refl
  all-kept k (x ∷ xs) all = let lt : k < key x = all.0 in
      rw (ne_eqb (key x) k (λ is. omega (arith, is, lt))) (ap (λ ys. x ∷ ys) (all-kept k xs all.1))

  -- no key is this one
  pub absent-kept : (k : ℕ) (xs : List S) → find (λ x. key x == k) xs ≡ None → xs ≡ filter (λ x. not (key x == k)) xs
  absent-kept k [] none = refl
  absent-kept k (x ∷ xs) none = elim (cases_eq (key x) k) [
    | inl is ↦ let some : Some x ≡ None = rw (eq-eqb (key x) k is) at none in absurd cc
    | inr differ ↦ rw (ne_eqb (key x) k differ) (ap (λ ys. x ∷ ys) (absent-kept k xs (rw (ne_eqb (key x) k differ) at none)))
  ]

  none-above : (k : ℕ) (xs : List S) → AllByRecursion (λ x. k < key x) xs → find (λ x. key x == k) xs ≡ None
  none-above k [] all = refl
  none-above k (x ∷ xs) all = let lt : k < key x = all.0 in rw (ne_eqb (key x) k (λ is. omega (arith, is, lt))) (none-above k xs all.1)

-- ---- those that aren't gone
module _ {S E : Type 0} (is_gone : S → Bool) (item : S → E) where
  pub live-taken : (xs : List S) → live is_gone item (filter (λ s. not (is_gone s)) xs) ≡ live is_gone item xs
  live-taken [] = refl
  live-taken (x ∷ xs) = step (is_gone x) refl (live-taken xs) where
    step : (b : Bool) → is_gone x ≡ b → live is_gone item (filter (λ s. not (is_gone s)) xs) ≡ live is_gone item xs
        → live is_gone item (cond (not b) (x ∷ filter (λ s. not (is_gone s)) xs) (filter (λ s. not (is_gone s)) xs))
        ≡ cond b (live is_gone item xs) (item x ∷ live is_gone item xs)
    step true is h = h
    step false is h = rw is (ap (λ ys. item x ∷ ys) h)

  pub length-taken : (xs : List S) → length (filter (λ s. not (is_gone s)) xs) ≡ length (live is_gone item xs)
  length-taken [] = refl
  length-taken (x ∷ xs) = elim (cases_Bool (is_gone x)) [
    | inl gone ↦ rw gone (length-taken xs)
    | inr stays ↦ rw stays (ap suc (length-taken xs))
  ]

  pub length-live : (xs : List S) → length (live is_gone item xs) ≤ length xs
  length-live [] = omega arith
  length-live (x ∷ xs) = let rest = length-live xs in elim (cases_Bool (is_gone x)) [
    | inl gone ↦ rw gone (omega (arith, rest))
    | inr stays ↦ rw stays (omega (arith, rest))
  ]

  pub live-filter : (test : E → Bool) (xs : List S)
      → live is_gone item (filter (λ s. not (is_gone s) && test (item s)) xs) ≡ filter test (live is_gone item xs)
  live-filter test [] = refl
  live-filter test (x ∷ xs) = step (is_gone x) (test (item x)) refl refl (live-filter test xs) where
    step : (b t : Bool) → is_gone x ≡ b → test (item x) ≡ t
        → live is_gone item (filter (λ s. not (is_gone s) && test (item s)) xs) ≡ filter test (live is_gone item xs)
        → live is_gone item (cond (not b && t) (x ∷ filter (λ s. not (is_gone s) && test (item s)) xs)
        (filter (λ s. not (is_gone s) && test (item s)) xs)) ≡ filter test (cond b (live is_gone item xs) (item x ∷ live is_gone item xs))
    step true t is it h = h
    step false true is it h = rw (is, it) (ap (λ ys. item x ∷ ys) h)
    step false false is it h = rw it h

  pub live-push : (s : S) (xs : List S) → is_gone s ≡ false → live is_gone item (xs ++ s ∷ []) ≡ live is_gone item xs ++ item s ∷ []
  live-push s [] stays = rw stays refl
  live-push s (x ∷ xs) stays = elim (cases_Bool (is_gone x)) [
    | inl gone ↦ rw gone (live-push s xs stays)
    | inr here ↦ rw here (ap (λ ys. item x ∷ ys) (live-push s xs stays))
  ]

  module _ (key : E → ℕ) where
    live-above : (n : ℕ) (xs : List S) → AllByRecursion (λ s. n < key (item s)) xs → AllByRecursion (λ e. n < key e) (live is_gone item xs)
    live-above n [] all = tt
    live-above n (x ∷ xs) all = let rest = live-above n xs all.1 in elim (cases_Bool (is_gone x)) [
      | inl gone ↦ rw gone rest
      | inr stays ↦ rw stays (all.0, rest)
    ]

    pub live-found : (k : ℕ) (xs : List S) (s : S) → KeysRise (λ x. key (item x)) xs → find (λ x. key (item x) == k) xs ≡ Some s
        → find (λ e. key e == k) (live is_gone item xs) ≡ (if is_gone s then None else Some (item s))
    live-found k [] s rise found = absurd cc
    live-found k (x ∷ xs) s rise found = elim (cases_eq (key (item x)) k) [
      | inl is ↦
          let some : Some x ≡ Some s = rw (eq-eqb (key (item x)) k is) at found in
          let same : x ≡ s = cc in
          let rest : find (λ e. key e == k) (live is_gone item xs) ≡ None =
          none-above key k (live is_gone item xs)
          (live-above k xs (subst (λ n. AllByRecursion (λ y. n < key (item y)) xs) is rise.0)) in
          rw (← same) (elim (cases_Bool (is_gone x)) [
            | inl gone ↦ rw gone rest
            | inr stays ↦ rw (stays, eq-eqb (key (item x)) k is) refl
          ])
      | inr differ ↦
          let rest = live-found k xs s rise.1 (rw (ne_eqb (key (item x)) k differ) at found) in
          elim (cases_Bool (is_gone x)) [
            | inl gone ↦ rw gone rest
            | inr stays ↦ rw (stays, ne_eqb (key (item x)) k differ) rest
          ]
    ]

    pub live-absent : (k : ℕ) (xs : List S) → find (λ x. key (item x) == k) xs ≡ None → find (λ e. key e == k) (live is_gone item xs) ≡ None
    live-absent k [] none = refl
    live-absent k (x ∷ xs) none = elim (cases_eq (key (item x)) k) [
      | inl is ↦ let some : Some x ≡ None = rw (eq-eqb (key (item x)) k is) at none in absurd cc
      | inr differ ↦
          let rest = live-absent k xs (rw (ne_eqb (key (item x)) k differ) at none) in
          elim (cases_Bool (is_gone x)) [
            | inl gone ↦ rw gone rest
            | inr stays ↦ rw (stays, ne_eqb (key (item x)) k differ) rest
          ]
    ]

    -- an entry becomes one that is gone
    pub live-hidden : (k : ℕ) (xs : List S) (at : ℕ) (s : S) → KeysRise (λ x. key (item x)) xs → at < length xs
        → ((d : S) → key (item (get_or xs at d)) ≡ k) → is_gone s ≡ true
        → live is_gone item (set xs at s) ≡ filter (λ e. not (key e == k)) (live is_gone item xs)
    live-hidden k [] at s rise lt is gone = absurd (omega (arith, lt))
    live-hidden k (x ∷ xs) zero s rise lt is gone =
        let here : key (item x) ≡ k = is x in
        let rest : filter (λ e. not (key e == k)) (live is_gone item xs) ≡ live is_gone item xs =
        all-kept key k (live is_gone item xs) (live-above k xs (subst (λ n. AllByRecursion (λ y. n < key (item y)) xs) here rise.0)) in
        rw gone (elim (cases_Bool (is_gone x)) [
          | inl was ↦ rw was (sym rest)
          | inr was ↦ rw (was, eq-eqb (key (item x)) k here) (sym rest)
        ])
    live-hidden k (x ∷ xs) (suc at) s rise lt is gone =
        let within : at < length xs = omega (arith, lt) in
        let there : key (item (get_or xs at x)) ≡ k = is x in
        let rest = live-hidden k xs at s rise.1 within is gone in
        let differ = ne_eqb (key (item x)) k (λ same. omega (arith, same, there, above_first (λ y. key (item y)) x xs at x rise within)) in
        elim (cases_Bool (is_gone x)) [
          | inl was ↦ rw was rest
          | inr was ↦ rw (was, differ) (ap (λ ys. item x ∷ ys) rest)
        ]

    -- an entry that is gone becomes one that isn't
    pub live-revived : (xs : List S) (at : ℕ) (s : S) → KeysRise (λ x. key (item x)) xs → at < length xs
        → ((d : S) → key (item (get_or xs at d)) ≡ key (item s)) → ((d : S) → is_gone (get_or xs at d) ≡ true) → is_gone s ≡ false
        → live is_gone item (set xs at s) ≡ placed key (item s) (live is_gone item xs)
    live-revived [] at s rise lt is gone stays = absurd (omega (arith, lt))
    live-revived (x ∷ xs) zero s rise lt is gone stays =
        let here : key (item x) ≡ key (item s) = is x in
        let above = live-above (key (item s)) xs (subst (λ n. AllByRecursion (λ y. n < key (item y)) xs) here rise.0) in
        rw (stays, gone x) (sym (placed-first key (item s) (live is_gone item xs) above))
    live-revived (x ∷ xs) (suc at) s rise lt is gone stays =
        let within : at < length xs = omega (arith, lt) in
        let there : key (item (get_or xs at x)) ≡ key (item s) = is x in
        let below = above_first (λ y. key (item y)) x xs at x rise within in
        let rest = live-revived xs at s rise.1 within is gone stays in
        elim (cases_Bool (is_gone x)) [
          | inl was ↦ rw was rest
          | inr was ↦ rw (was, le-ltb (key (item s)) (key (item x)) (omega (arith, below, there))) (ap (λ ys. item x ∷ ys) rest)
        ]

    -- an entry is put among the others
    pub live-placed : (s : S) (xs : List S) → KeysRise (λ x. key (item x)) xs → is_gone s ≡ false
        → live is_gone item (placed (λ x. key (item x)) s xs) ≡ placed key (item s) (live is_gone item xs)
    live-placed s [] rise stays = rw stays refl
    live-placed s (x ∷ xs) rise stays = elim (placed-cases (λ y. key (item y)) s x xs) [
      | inl here ↦
          let above : AllByRecursion (λ y. key (item s) < key (item y)) (x ∷ xs) = (
            here.0,
            All-weaken (λ y. key (item x) < key (item y)) (λ y. key (item s) < key (item y))
                (λ y lt. omega (arith, lt, here.0)) xs rise.0,
          ) in
          let first = placed-first key (item s) (live is_gone item (x ∷ xs)) (live-above (key (item s)) (x ∷ xs) above) in
          ap (live is_gone item) here.1 ∙ ap (λ b. cond b (live is_gone item (x ∷ xs)) (item s ∷ live is_gone item (x ∷ xs))) stays
          ∙ sym first
      | inr later ↦
          let rest = live-placed s xs rise.1 stays in
          ap (live is_gone item) later.1 ∙ (elim (cases_Bool (is_gone x)) [
            | inl was ↦ rw was rest
            | inr was ↦ rw (was, le-ltb (key (item s)) (key (item x)) later.0) (ap (λ ys. item x ∷ ys) rest)
          ])
    ]
