-- What a stepwise HMAC holds.
use Rattle.std.specs.Prelude.{ℕ, List, ◌++◌}
use Rattle.sha2.specs.Hashers.{Holds256}
use Rattle.sha2.specs.Sha256.{sha256}
use Rattle.sha2.specs.declared.Sha256.{Sha256}
use Rattle.hmac_sha2.specs.Hmac.{inner_pad, outer_pad, padded_key}
use Rattle.hmac_sha2.specs.declared.stepwise.Hmac.{Hmac}

-- h has taken this message under this key. Its two hashers, of which `holds` has what message each
-- holds, begin with the key under the inner and the outer pad.
pub record HoldsMessage {D : Type 0} (holds : D → List ℕ → Type 0) (hash : List ℕ → List ℕ) (block_size : ℕ) (h : Hmac D)
    (key message : List ℕ) : Type 0 where
  pub inner : holds h.inner (padded_key hash block_size inner_pad key ++ message)
  pub outer : holds h.outer (padded_key hash block_size outer_pad key)

-- the same with SHA-256
abbrev pub HoldsMessage256 : Hmac Sha256 → List ℕ → List ℕ → Type 0
HoldsMessage256 = HoldsMessage Holds256 sha256 64
