-- ECB in parts (SP 800-38A, 6.1).
use Rattle.std.specs.Prelude.{◌≡◌, ◌*◌, ◌/◌, length, take}
use Rattle.fips_197.specs.Bytes.{AreBytes}
use Rattle.fips_197.specs.KeyExpansion.{IsKey}
use Rattle.aes_modes.specs.Modes.{ecb_blocks}
use Rattle.streams_model.specs.Flows.{Flow}

-- the whole blocks taken are encrypted to the output so far
pub record IsEcbEncrypted (f : Flow) : Type 0 where
  pub size : length f.given ≡ 16 * (length f.taken / 16)
  pub out : f.given ≡ ecb_blocks f.key f.taken (length f.taken / 16)

-- the output so far is encrypted to the whole blocks taken
pub record IsEcbDecrypted (f : Flow) : Type 0 where
  pub size : length f.given ≡ 16 * (length f.taken / 16)
  pub back : ecb_blocks f.key f.given (length f.taken / 16) ≡ take (16 * (length f.taken / 16)) f.taken
  pub bytes : AreBytes f.given
  pub is_key : IsKey f.key
