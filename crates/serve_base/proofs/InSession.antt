-- A session of which something is known is there.
use Rattle.std.proofs.Common.{◌≡◌, Option, Some, None, refl, sym, ◌∙◌}
use Rattle.std.specs.Option.{option_map}

pub in_session : {S A : Type 0} (f : S → A) (o : Option S) (r : Option A) (x : A) → r ≡ option_map f o → r ≡ Some x → (s : S)
    × (o ≡ Some s) × (f s ≡ x)
in_session f None r x is some = let k : None ≡ Some x = sym is ∙ some in cc
in_session f (Some s) r x is some = let k : Some (f s) ≡ Some x = sym is ∙ some in (s, refl, cc)
