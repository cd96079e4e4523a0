-- A key for the batches of a text.
use Rattle.std.specs.Prelude.{◌≡◌, ℕ, List, IfSome}
use Rattle.fips_197.specs.KeyExpansion.{IsKey}
use Rattle.aes_slices.specs.declared.batch_key.BatchKey.TheInside.{Inside}

-- the key's bytes
abbrev pub batch_key_bytes : Inside → List ℕ
batch_key_bytes k = k.key

-- the sliced key is the same
pub record IsOne (k : Inside) : Type 0 where
  pub key : IsKey k.key
  pub sliced : IfSome k.sliced (λ s. s.value ≡ k.key)
