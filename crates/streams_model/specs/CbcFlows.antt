-- CBC in parts (SP 800-38A, 6.2).
use Rattle.std.specs.Prelude.{◌≡◌, ◌*◌, ◌/◌, length, take}
use Rattle.fips_197.specs.Bytes.{AreBytes, IsBlock}
use Rattle.fips_197.specs.KeyExpansion.{IsKey}
use Rattle.aes_modes.specs.Modes.{cbc_blocks}
use Rattle.streams_model.specs.Flows.{Flow, blocks_done}

-- the whole blocks taken are encrypted to the output so far
pub record IsCbcEncrypted (f : Flow) : Type 0 where
  pub size : length f.given ≡ 16 * (length f.taken / 16)
  pub out : f.given ≡ cbc_blocks f.key f.iv f.taken (length f.taken / 16)

-- the output so far is encrypted to the blocks taken before those buffered
pub record IsCbcDecrypted (f : Flow) : Type 0 where
  pub size : length f.given ≡ 16 * blocks_done f.held f.taken
  pub back : cbc_blocks f.key f.iv f.given (blocks_done f.held f.taken) ≡ take (16 * blocks_done f.held f.taken) f.taken
  pub block : IsBlock f.iv
  pub bytes : AreBytes f.given
  pub is_key : IsKey f.key
