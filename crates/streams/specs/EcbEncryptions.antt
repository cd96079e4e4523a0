-- The fields of an ECB encryption.
use Rattle.std.specs.Prelude.{◌≡◌, ◌*◌, ◌/◌, [], length, drop}
use Rattle.streams_model.specs.Flows.{Flow}
use Rattle.streams_model.specs.EcbFlows.{IsEcbEncrypted}
use Rattle.streams.specs.declared.ecb_encryption.EcbEncryption.TheInside.{Inside}

abbrev pub flow_of : Inside → Flow
flow_of s = record { iv = []; key = s.key; held = 0; taken = s.passed.taken.bytes; given = s.passed.given.bytes }

-- the bytes behind the whole blocks are buffered
pub record Holds (s : Inside) : Type 0 where
  pub given : IsEcbEncrypted (flow_of s)
  pub kept : s.passed.kept ≡ drop (16 * (length s.passed.taken.bytes / 16)) s.passed.taken.bytes
