-- What a mode makes of a text in a direction.
use Rattle.std.specs.Prelude.{◌≡◌, ℕ, List}
use Rattle.aes_modes.specs.declared.direction.Direction.{Direction}
use Rattle.aes_modes.specs.declared.direction.Direction.TheVariants.{Encrypt, Decrypt}

-- `out` is what the mode encrypts `text` to, or else the text that it encrypts to `text`
abbrev pub IsTurned : Direction → (List ℕ → List ℕ) → List ℕ → List ℕ → Type 0
IsTurned Encrypt mode text out = out ≡ mode text
IsTurned Decrypt mode text out = mode out ≡ text
