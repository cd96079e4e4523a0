-- A decoder of a type that has only some values of another.
use Rattle.std.proofs.Common.{◌≡◌, List, ℕ, Option, Some, None, refl}
use Rattle.ck_types.specs.Format.{Format, narrowed}

pub narrowed-some : {A B : Type 0} (c : Format A) (to : A → Option B) (from : B → A) (bytes : List ℕ) (x : A) (rest : List ℕ)
    (y : B) → c.decode bytes ≡ Some (x, rest) → to x ≡ Some y → (narrowed c to from).decode bytes ≡ Some (y, rest)
narrowed-some c to from bytes x rest y e f = rw (e, f) refl

pub narrowed-none : {A B : Type 0} (c : Format A) (to : A → Option B) (from : B → A) (bytes : List ℕ) (x : A) (rest : List ℕ)
    → c.decode bytes ≡ Some (x, rest) → to x ≡ None → (narrowed c to from).decode bytes ≡ None
narrowed-none c to from bytes x rest e f = rw (e, f) refl
