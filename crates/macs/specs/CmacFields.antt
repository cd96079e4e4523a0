-- The fields of a CMAC of a message in parts.
use Rattle.std.specs.Prelude.{◌≡◌, ◌+◌, ◌*◌, ◌≤◌, length, take, drop}
use Rattle.aes_cmac.specs.Cmac.{count_before_last, chained}
use Rattle.macs.specs.KeyedMessage.{KeyedMessage}
use Rattle.macs.specs.declared.cmac_stream.CmacStream.TheInside.{Inside}

abbrev pub cmac_message : Inside → KeyedMessage
cmac_message s = record { key = s.key; taken = s.taken.bytes }

-- what the blocks before the last are chained to, and the bytes behind them, are buffered
pub record CmacHolds (s : Inside) : Type 0 where
  pub chain : s.chain ≡ chained s.key s.taken.bytes (count_before_last s.taken.bytes)
  pub last : take s.last_len s.last ≡ drop (16 * count_before_last s.taken.bytes) s.taken.bytes
  pub size : 16 * count_before_last s.taken.bytes + s.last_len ≡ length s.taken.bytes
  pub fits : s.last_len ≤ 16
