-- The conditions for which data is refused, and data that fits into a frame.
use Rattle.std.specs.Prelude.{ℕ, List, Option, Some, None}
use Rattle.aes_modes.specs.declared.direction.Direction.{Direction}
use Rattle.aes_modes.specs.declared.direction.Direction.TheVariants.{Encrypt, Decrypt}
use Rattle.aes_modes.specs.declared.fault.ModeFault.{ModeFault}
use Rattle.aes_modes.specs.declared.fault.ModeFault.TheVariants.{CounterEnd}
use Rattle.precede.specs.declared.condition.Condition.{Condition}
use Rattle.precede.specs.declared.condition.Condition.TheVariants.{DataLength, EncryptedDataLength}
use Rattle.serve_base.specs.Short.{IsShortData}

-- the condition for which data is refused: for its length, or since the mechanism has no counter for each block
abbrev pub refused_row : Direction → ModeFault → Condition
refused_row d CounterEnd = DataLength
refused_row Encrypt _ = DataLength
refused_row Decrypt _ = EncryptedDataLength

-- the data of a call that ends the operation, or none, fits into a frame with a buffer's length
abbrev pub IsShortLast : Option (List ℕ) → Option ℕ → Type 0
IsShortLast None buffer_len = Unit {0}
IsShortLast (Some input) buffer_len = IsShortData input buffer_len
