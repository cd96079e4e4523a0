-- The key of a block's length, where the key is no longer than a block, and where it is.
use Rattle.std.proofs.Common.{◌≡◌, ℕ, ◌<◌, ◌≤◌, List, length, if◌then◌else◌, ap, le-leb}
use Rattle.std.proofs.lemmas.Bool.{lt-leb}
use Rattle.hmac_sha2.specs.Hmac.{zero_padded, block_key}

pub block_key-short : (hash : List ℕ → List ℕ) (size : ℕ) (key : List ℕ) → length key ≤ size
    → block_key hash size key ≡ zero_padded size key
unfolding block_key
block_key-short hash size key short = ap (λ b. zero_padded size (if b then key else hash key)) (le-leb _ _ short)

pub block_key-long : (hash : List ℕ → List ℕ) (size : ℕ) (key : List ℕ) → size < length key
    → block_key hash size key ≡ zero_padded size (hash key)
unfolding block_key
block_key-long hash size key long = ap (λ b. zero_padded size (if b then key else hash key)) (lt-leb _ _ long)
