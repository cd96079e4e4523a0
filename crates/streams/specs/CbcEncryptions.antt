-- The fields of a CBC encryption.
use Rattle.std.specs.Prelude.{◌≡◌, ◌*◌, ◌/◌, length, drop}
use Rattle.aes_modes.specs.Modes.{chained}
use Rattle.streams_model.specs.Flows.{Flow}
use Rattle.streams_model.specs.CbcFlows.{IsCbcEncrypted}
use Rattle.streams.specs.declared.cbc_encryption.CbcEncryption.TheInside.{Inside}

abbrev pub flow_of : Inside → Flow
flow_of s = record { iv = s.iv.bytes; key = s.key; held = 0; taken = s.passed.taken.bytes; given = s.passed.given.bytes }

-- what the next block is added to, and the bytes behind the whole blocks, are buffered
pub record Holds (s : Inside) : Type 0 where
  pub given : IsCbcEncrypted (flow_of s)
  pub chain : s.chain ≡ chained s.key s.iv.bytes s.passed.taken.bytes (length s.passed.taken.bytes / 16)
  pub kept : s.passed.kept ≡ drop (16 * (length s.passed.taken.bytes / 16)) s.passed.taken.bytes
