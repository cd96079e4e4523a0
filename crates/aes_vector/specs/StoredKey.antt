-- What the fields of a key hold.
use Rattle.std.specs.Prelude.{◌≡◌, ℕ, ◌-◌, ◌*◌, List, ◌++◌, map, take, bit_xor}
use Rattle.aes_vector.specs.declared.Key.TheInside.{Inside}
use Rattle.aes_vector.specs.Halves.{plain}
use Rattle.aes_vector.specs.Prepared.{ArePrepared, AreInversePrepared}
use Rattle.fips_197.specs.Cipher.{round_key}
use Rattle.fips_197.specs.KeyExpansion.{IsKey, key_expansion, round_count}

-- the key: the first bytes of the schedule that the round keys were made of
unfoldable pub key_bytes : Inside → List ℕ
key_bytes k =
    take (4 * (k.rounds - 6)) (map plain (round_key k.keys 0) ++ map (λ b. bit_xor (plain b) 0x63) (round_key k.keys 1))

-- the fields are those that the key makes
pub record IsPrepared (k : Inside) : Type 0 where
  pub key : IsKey (key_bytes k)
  pub rounds : k.rounds ≡ round_count (key_bytes k)
  pub keys : ArePrepared k.keys k.rounds (key_expansion (key_bytes k))
  pub inverse_keys : AreInversePrepared k.inverse_keys k.rounds (key_expansion (key_bytes k))
