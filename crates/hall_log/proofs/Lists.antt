-- Lists whose elements carry a seat's number.
use Rattle.std.proofs.Common.{◌≡◌, ◌≢◌, ℕ, zero, suc, ◌⊎◌, inl, inr, ⊎_elim, true, false, cond, nat_eq, List, [], ◌∷◌, ◌++◌, length, refl, ap, ◌∙◌, arith, append-nil, Some}
use Rattle.std.specs.List.{slice_get}
use Rattle.std.proofs.lemmas.Bool.Decides.{nat_tests}
use Rattle.hall_log.specs.Lists.{of, last}

module _ {A : Type 0} where
  pub of-append : (s : ℕ) (xs ys : List (ℕ × A)) → of s (xs ++ ys) ≡ of s xs ++ of s ys
  of-append s [] ys = refl
  of-append s (x ∷ xs) ys = elim (nat_eq x.0 s) as
      (λ b. cond b (x.1 ∷ of s (xs ++ ys)) (of s (xs ++ ys)) ≡ cond b (x.1 ∷ of s xs) (of s xs) ++ of s ys)
      [ true ↦ ap (λ l. x.1 ∷ l) (of-append s xs ys) | false ↦ of-append s xs ys ]

  pub of-one : (s : ℕ) (t : ℕ) (a : A) → t ≡ s → of s ((t, a) ∷ []) ≡ a ∷ []
  of-one s t a e = grind (arith, nat_tests)

  pub of-other : (s : ℕ) (t : ℕ) (a : A) → t ≢ s → of s ((t, a) ∷ []) ≡ []
  of-other s t a e = grind (arith, nat_tests)

  -- one element more, of this seat
  pub of_here : (xs : List (ℕ × A)) (s : ℕ) (a : A) → of s (xs ++ (s, a) ∷ []) ≡ of s xs ++ a ∷ []
  of_here xs s a = of-append s xs ((s, a) ∷ []) ∙ ap (λ l. of s xs ++ l) (of-one s s a refl)

  -- and of another one
  pub of_else : (xs : List (ℕ × A)) (s t : ℕ) (a : A) → t ≢ s → of s (xs ++ (t, a) ∷ []) ≡ of s xs
  of_else xs s t a ne = of-append s xs ((t, a) ∷ []) ∙ ap (λ l. of s xs ++ l) (of-other s t a ne) ∙ append-nil (of s xs)

  pub last_snoc : (xs : List A) (x : A) → last (xs ++ x ∷ []) ≡ Some x
  last_snoc [] x = refl
  last_snoc (y ∷ []) x = refl
  last_snoc (y ∷ z ∷ zs) x = last_snoc (z ∷ zs) x

  -- an index of a list that is one longer is one of the list, or the new one
  pub get_more : (xs : List A) (a b : A) (k : ℕ) → slice_get (xs ++ a ∷ []) k ≡ Some b → (slice_get xs k ≡ Some b)
      ⊎ ((k ≡ length xs) × (a ≡ b))
  get_more [] a b zero e = inr (refl, cc)
  get_more [] a b (suc k) e = cc
  get_more (x ∷ xs) a b zero e = inl e
  get_more (x ∷ xs) a b (suc k) e = ⊎_elim inl (λ (t : (k ≡ length xs) × (a ≡ b)). inr (ap suc t.0, t.1)) (get_more xs a b k e)
