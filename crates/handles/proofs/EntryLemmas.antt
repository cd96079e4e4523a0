-- What a bisection finds among entries of which some are retired, and what is done to them there.
use Rattle.std.proofs.Common.{◌≡◌, ℕ, ◌<◌, Bool, true, false, cond, eqb, not, List, length, get_or, set, Option, Some, None, refl, sym, ap, ◌∙◌, inl, inr}
use Rattle.std.specs.Prelude.{find, filter, if◌then◌else◌}
use Rattle.std.proofs.lemmas.Bool.{cases_Bool, eqb-true}
use Rattle.handles.specs.declared.Handle.{Handle}
use Rattle.handles.specs.declared.Entry.{Entry}
use Rattle.lists.specs.Bisection.{KeysRise}
use Rattle.lists.specs.InOrder.{placed, NumbersRise}
use Rattle.lists.proofs.ListLemmas.{find-passes}
use Rattle.handles.specs.Stored.{handles_in}
use Rattle.handles.proofs.LiveLemmas.{absent-kept, KeysRise-set, NumbersRise-set, live-absent, live-found, live-hidden, live-placed, live-revived}

module _ (key : Handle → ℕ) (k : ℕ) (xs : List Entry) where
  -- no entry has the key
  pub absent-in : find (λ e. eqb (key e.handle) k) xs ≡ None → None ≡ find (λ h. eqb (key h) k) (handles_in xs)
  absent-in none = sym (live-absent (λ e. e.retired) (λ e. e.handle) key k xs none)

  pub absent-left : find (λ e. eqb (key e.handle) k) xs ≡ None → handles_in xs ≡ filter (λ h. not (eqb (key h) k)) (handles_in xs)
  absent-left none = absent-kept key k (handles_in xs) (sym (absent-in none))

  module _ (rise : KeysRise (λ e. key e.handle) xs) where
    pub found-in : (x : Entry) → find (λ e. eqb (key e.handle) k) xs ≡ Some x
        → (if x.retired then None else Some x.handle) ≡ find (λ h. eqb (key h) k) (handles_in xs)
    found-in x found = sym (live-found (λ e. e.retired) (λ e. e.handle) key k xs x rise found)

    -- at the index where an entry has the key
    module _ (at : ℕ) (index : (at < length xs) × ((d : Entry) → find (λ e. eqb (key e.handle) k) xs ≡ Some (get_or xs at d))) where
      key-at : (d : Entry) → key (get_or xs at d).handle ≡ k
      key-at d = eqb-true (key (get_or xs at d).handle) k (find-passes (λ e. eqb (key e.handle) k) xs (get_or xs at d) (index.1 d))

      -- what is read there has the key
      read-key : (x : Entry) → x ≡ get_or xs at x → key x.handle ≡ k
      read-key x read = ap (λ e. key e.handle) read ∙ key-at x

      same-at : (x e : Entry) → x ≡ get_or xs at x → key e.handle ≡ key x.handle → (d : Entry) → key (get_or xs at d).handle ≡ key e.handle
      same-at x e read same d = key-at d ∙ sym (read-key x read) ∙ sym same

      -- it is retired
      pub retired-left : (x : Entry) → x ≡ get_or xs at x
          → handles_in (set xs at (record { handle = x.handle; retired = true })) ≡ filter (λ h. not (eqb (key h) k)) (handles_in xs)
      retired-left x read = live-hidden (λ e. e.retired) (λ e. e.handle) key k xs at
          (record { handle = x.handle; retired = true }) rise index.0 key-at refl

      pub retired-rise : (x : Entry) → x ≡ get_or xs at x
          → KeysRise (λ e. key e.handle) (set xs at (record { handle = x.handle; retired = true }))
      retired-rise x read = KeysRise-set (λ e. key e.handle) xs at (record { handle = x.handle; retired = true })
          (same-at x (record { handle = x.handle; retired = true }) read refl) rise

      pub retired-numbers : (x : Entry) → x ≡ get_or xs at x → (next : ℕ) → NumbersRise (λ e. key e.handle) 1 xs next
          → NumbersRise (λ e. key e.handle) 1 (set xs at (record { handle = x.handle; retired = true })) next
      retired-numbers x read next numbers =
          NumbersRise-set (λ e. key e.handle) 1 next xs at (record { handle = x.handle; retired = true })
          (same-at x (record { handle = x.handle; retired = true }) read refl) numbers

      -- a handle is put in the place of a retired one
      gone-at : find (λ h. eqb (key h) k) (handles_in xs) ≡ None → (d : Entry) → (get_or xs at d).retired ≡ true
      gone-at none d = elim (cases_Bool (get_or xs at d).retired) [
        | inl gone ↦ gone
        | inr stays ↦
            let some : Some (get_or xs at d).handle ≡ None =
            ap (λ b. cond b None (Some (get_or xs at d).handle)) (sym stays) ∙ found-in (get_or xs at d) (index.1 d) ∙ none in
            absurd cc
      ]

      pub revived : (h : Handle) → key h ≡ k → find (λ x. eqb (key x) k) (handles_in xs) ≡ None
          → handles_in (set xs at (record { handle = h; retired = false })) ≡ placed key h (handles_in xs)
      revived h is none = live-revived (λ e. e.retired) (λ e. e.handle) key xs at
          (record { handle = h; retired = false }) rise index.0 (λ d. key-at d ∙ sym is) (gone-at none) refl

      pub revived-rise : (h : Handle) → key h ≡ k → KeysRise (λ e. key e.handle) (set xs at (record { handle = h; retired = false }))
      revived-rise h is = KeysRise-set (λ e. key e.handle) xs at (record { handle = h; retired = false }) (λ d. key-at d ∙ sym is) rise

-- a handle is put among entries of which none has its key
pub put-between : (key : Handle → ℕ) (h : Handle) (xs : List Entry) → KeysRise (λ e. key e.handle) xs
    → handles_in (placed (λ e. key e.handle) (record { handle = h; retired = false }) xs) ≡ placed key h (handles_in xs)
put-between key h xs rise = live-placed (λ e. e.retired) (λ e. e.handle) key (record { handle = h; retired = false }) xs rise refl
