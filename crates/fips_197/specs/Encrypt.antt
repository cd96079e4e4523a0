-- AES (FIPS 197, 5): what a block is encrypted to under a key.
use Rattle.std.specs.Prelude.{ℕ, List}
use Rattle.fips_197.specs.KeyExpansion.{key_expansion, round_count}
use Rattle.fips_197.specs.Cipher.{cipher}

-- the block that a block is encrypted to under a key: the cipher under the key's schedule, in the
-- number of rounds that the key's length asks for
unfoldable pub encrypted_block : List ℕ → List ℕ → List ℕ
encrypted_block key block = cipher (key_expansion key) (round_count key) block
