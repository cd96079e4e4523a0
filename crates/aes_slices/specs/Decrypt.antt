-- What a block is decrypted to under a key.
use Rattle.std.specs.Prelude.{ℕ, List}
use Rattle.fips_197.specs.InverseCipher.{inverse_cipher}
use Rattle.fips_197.specs.KeyExpansion.{key_expansion, round_count}

-- the inverse cipher (FIPS 197, 5.3) under the key's schedule
unfoldable pub decrypted_block : List ℕ → List ℕ → List ℕ
decrypted_block key block = inverse_cipher (key_expansion key) (round_count key) block
