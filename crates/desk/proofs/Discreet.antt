-- What keeps a desk discreet (`IsDiscreet`).
use Rattle.std.proofs.Common.{◌≡◌, false, List, [], ◌∷◌, refl, inl, inr}
use Rattle.std.specs.List.{AllByRecursion}
use Rattle.std.proofs.lemmas.Bool.{cases_Bool}
use Rattle.handles.specs.declared.Handle.{Handle}
use Rattle.handles.specs.Handles.{public_handles}

-- no handle that stays is of a private object
pub All-public : (hs : List Handle) → AllByRecursion (λ h. h.private ≡ false) (public_handles hs)
All-public [] = tt
All-public (h ∷ hs) = elim (cases_Bool h.private) [
  | inl private ↦ rw private (All-public hs)
  | inr public ↦ rw public (refl, All-public hs)
]
