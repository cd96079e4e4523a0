-- A change by others is in a trace just where it alters the view.
use Rattle.std.proofs.Common.{◌≡◌, Bool, true, false, cond, [], ◌∷◌, refl, sym}
use Rattle.model_views.specs.Views.{View, mask}
use Rattle.model_views.specs.Changes.{Change, mask_change, seen, is_seen}
use Rattle.model_views.proofs.Seen.{unseen-view, seen-view}
use Rattle.model_worlds.specs.Traces.{Sees, saw}

pub left-out : (v : View) (change : Change) → mask (seen change v) ≡ mask v → saw v change ≡ []
left-out v change same = step (is_seen v change) refl where
  step : (b : Bool) → is_seen v change ≡ b → cond b (Sees (mask_change change) ∷ []) [] ≡ []
  step true is = absurd (seen-view v change is (sym same))
  step false is = refl

pub nothing-saw : (v : View) (change : Change) → saw v change ≡ [] → mask (seen change v) ≡ mask v
nothing-saw v change none = step (is_seen v change) refl none where
  step : (b : Bool) → is_seen v change ≡ b → cond b (Sees (mask_change change) ∷ []) [] ≡ [] → mask (seen change v) ≡ mask v
  step true is none = cc
  step false is none = sym (unseen-view v change is)
