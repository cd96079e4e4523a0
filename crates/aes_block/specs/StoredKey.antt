-- What the fields of a key hold.
use Rattle.std.specs.Prelude.{◌≡◌, ℕ, ◌+◌, ◌-◌, ◌*◌, ◌<◌, ◌≤◌, List, take, length}
use Rattle.aes_block.specs.declared.Key.TheInside.{Inside}
use Rattle.aes_block.specs.Words.{words_bytes}
use Rattle.fips_197.specs.Cipher.{round_key}
use Rattle.fips_197.specs.KeyExpansion.{IsKeyLength, key_expansion, round_count}
use Rattle.fips_197.specs.InverseCipher.{inverse_mix_columns}

-- the key: the first words of its schedule
unfoldable pub scheduled_key_bytes : Inside → List ℕ
scheduled_key_bytes k = take (4 * (k.rounds - 6)) (words_bytes k.schedule)

-- the fields are those that the key makes. Round keys of the equivalent inverse cipher are kept for
-- the rounds that mix columns, which are all but the first and the last
pub record IsExpanded (k : Inside) : Type 0 where
  pub size : IsKeyLength (length (scheduled_key_bytes k))
  pub rounds : k.rounds ≡ round_count (scheduled_key_bytes k)
  pub schedule : take (16 * (k.rounds + 1)) (words_bytes k.schedule) ≡ key_expansion (scheduled_key_bytes k)
  pub inverse_schedule : (r : ℕ) → 1 ≤ r → r < k.rounds
      → round_key (words_bytes k.inverse_schedule) r
      ≡ inverse_mix_columns (round_key (words_bytes k.schedule) r)
