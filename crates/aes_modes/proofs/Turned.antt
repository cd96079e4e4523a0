-- A mode that is its own inverse.
use Rattle.std.proofs.Common.{◌≡◌, ◌∙◌, ap, sym, ℕ, List}
use Rattle.aes_modes.specs.declared.direction.Direction.{Direction}
use Rattle.aes_modes.specs.declared.direction.Direction.TheVariants.{Encrypt, Decrypt}
use Rattle.aes_modes.specs.Directions.{IsTurned}

pub IsTurned-both : (direction : Direction) (mode : List ℕ → List ℕ) (text out : List ℕ) → out ≡ mode text → mode out ≡ text
    → IsTurned direction mode text out
IsTurned-both Encrypt mode text out there back = there
IsTurned-both Decrypt mode text out there back = back

pub IsTurned-only : (direction : Direction) (mode : List ℕ → List ℕ) (text out : List ℕ) → out ≡ mode text
    → ((x : List ℕ) → mode (mode x) ≡ x) → (x : List ℕ) → IsTurned direction mode text x → x ≡ out
IsTurned-only Encrypt mode text out there twice x turned = turned ∙ sym there
IsTurned-only Decrypt mode text out there twice x turned = sym (twice x) ∙ ap mode turned ∙ sym there
