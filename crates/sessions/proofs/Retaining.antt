-- What `retain` leaves in a slab, where the closure keeps each value and changes it in one way.
use Rattle.std.proofs.Common.{◌≡◌, ℕ, ◌+◌, Bool, true, cond, List, [], ◌∷◌, map, Option, Some, None, MutBor, refl, sym, ap, subst, ◌∙◌}
use Rattle.std.specs.Option.{option_map}
use Rattle.slab.specs.Slab.{RetainsFrom}

module _ {E F : Type 0} (step : F → ℕ → MutBor E → Bool → MutBor E → F → Type 0) where
  pub retained_each : (change : E → E) (f : F)
      → ((key : ℕ) (shown : MutBor E) (keep : Bool) (left : MutBor E) (next : F) → step f key shown keep left next → (keep ≡ true)
      × (left.now ≡ change shown.now) × (next ≡ f)) → (key : ℕ) (slots kept : List (Option E)) → RetainsFrom step f key slots kept
      → kept ≡ map (option_map change) slots
  retained_each change f says key [] kept retains = retains
  retained_each change f says key (None ∷ rest) kept retains =
      retains.1 ∙ ap (λ xs. None ∷ xs) (retained_each change f says (key + 1) rest retains.0 retains.2)
  retained_each change f says key (Some old ∷ rest) kept retains =
      let called = retains.3 in
      let said = says key called.shown retains.0 called.left retains.2 called.called in
      let value : retains.1 ≡ change old = sym called.leaves ∙ said.1 ∙ ap change called.shows in
      let later = retained_each change f says (key + 1) rest retains.4
      (subst (λ g. RetainsFrom step g (key + 1) rest retains.4) said.2 retains.6) in
      retains.5 ∙ ap (λ xs. cond retains.0 (Some retains.1) None ∷ xs) later ∙ rw (said.0, value) refl
