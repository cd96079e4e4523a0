-- What is said of the keeper behind it is said of a keeper with room, where a change is tried once or twice.
use Rattle.std.proofs.Common.{◌≡◌, subst, sym}
use Rattle.keep.specs.Contents.{Contents}
use Rattle.keep.specs.Keeping.{Changes, Fails, Terms}
use Rattle.reserve.specs.ReservedState.{ReservedState, reserved_terms}

module _ {K R : Type 0} (terms : Terms K) (old new : ReservedState K R) (was : K) (same : was ≡ old.keep) (step : Contents → Contents) where
  pub once : Changes terms was new.keep step → Changes (reserved_terms terms) old new step
  once it = by (subst (λ (k : K). Changes terms k new.keep step) same it) where
    by : Changes terms old.keep new.keep step → Changes (reserved_terms terms) old new step
    by it = record { held = it.held; crash = it.crash }

  pub twice : (mid again : K) → again ≡ mid → Fails terms was mid step → Changes terms again new.keep step
      → Changes (reserved_terms terms) old new step
  twice mid again is one two = by (subst (λ (k : K). Changes terms k new.keep step) is two) where
    by : Changes terms mid new.keep step → Changes (reserved_terms terms) old new step
    by two = once (record {
      held = λ c h. two.held c (one.held c h);
      crash = λ c left h may. two.crash c left (one.held c h) may;
    })
