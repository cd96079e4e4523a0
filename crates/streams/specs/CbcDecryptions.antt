-- The fields of a CBC decryption.
use Rattle.std.specs.Prelude.{◌≡◌, ◌*◌, ◌≤◌, drop}
use Rattle.aes_modes.specs.Modes.{chained}
use Rattle.streams_model.specs.Flows.{Flow, blocks_done}
use Rattle.streams_model.specs.CbcFlows.{IsCbcDecrypted}
use Rattle.streams.specs.declared.cbc_decryption.CbcDecryption.TheInside.{Inside}

abbrev pub flow_of : Inside → Flow
flow_of s = record { iv = s.iv.bytes; key = s.key; held = s.held; taken = s.passed.taken.bytes; given = s.passed.given.bytes }

-- what the next block decrypted is added to, and the bytes behind the blocks done, are buffered
pub record DecryptionHolds (s : Inside) : Type 0 where
  pub held : s.held ≤ 1
  pub given : IsCbcDecrypted (flow_of s)
  pub chain : s.chain ≡ chained s.key s.iv.bytes s.passed.given.bytes (blocks_done s.held s.passed.taken.bytes)
  pub kept : s.passed.kept ≡ drop (16 * blocks_done s.held s.passed.taken.bytes) s.passed.taken.bytes
