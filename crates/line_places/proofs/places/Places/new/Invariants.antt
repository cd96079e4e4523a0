use Rattle.std.proofs.Common.{◌≡◌, ℕ, length, Some, None}
use Rattle.std.specs.List.{slice_get}
use Rattle.line_places.proofs.places.Places.new.Given as goal

abbrev pub invariant-places : goal.invariant-places
invariant-places g l = (length l.places.items ≡ l.place) × ((j : ℕ) (p : _) → slice_get l.places.items j ≡ Some p → p.client ≡ None)
