-- Round keys by their planes.
use Rattle.std.specs.Prelude.{ℕ, ◌<◌, ◌≤◌, List}
use Rattle.fips_197.specs.Bytes.{IsBlock}
use Rattle.fips_197.specs.Cipher.{round_key}
use Rattle.fips_197.specs.KeyExpansion.{IsKey, key_expansion, round_count}
use Rattle.aes_slices.specs.declared.SlicedKey.TheInside.{Inside}
use Rattle.aes_slices.specs.Rows.{in_rows}
use Rattle.aes_planes.specs.Planes.{IsSliced, with_constant}
use Rattle.aes_slices.specs.Slices.{eight_at}

-- Each block of the planes of key r is round key r of a schedule of so many rounds. 0x63, which the S-box adds, is added to each
-- but the first. The keys between the first and the last are row after row.
pub record ArePlanes (planes : List ℕ) (rounds : ℕ) (w : List ℕ) : Type 0 where
  pub blocks : (r : ℕ) → r ≤ rounds → IsBlock (round_key w r)
  pub first : (j : ℕ) → j < 8 → IsSliced (eight_at planes 0) j (round_key w 0)
  pub middle : (r : ℕ) → 1 ≤ r → r < rounds → (j : ℕ) → j < 8
      → IsSliced (eight_at planes r) j (in_rows (with_constant (round_key w r)))
  pub last : (j : ℕ) → j < 8 → IsSliced (eight_at planes rounds) j (with_constant (round_key w rounds))

-- the key's bytes
abbrev pub key_bytes : Inside → List ℕ
key_bytes k = k.key

-- the planes are those of its round keys
pub record ArePlanesPrepared (k : Inside) : Type 0 where
  pub key : IsKey k.key
  pub planes : ArePlanes k.planes (round_count k.key) (key_expansion k.key)
