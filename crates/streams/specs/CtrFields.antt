-- The fields of CTR in parts.
use Rattle.std.specs.Prelude.{◌≡◌, ◌+◌, ◌*◌, ◌^◌, ◌≤◌, drop}
use Rattle.std.specs.Int.{w128, from_be_bytes}
use Rattle.fips_197.specs.Bytes.{AreBytes}
use Rattle.fips_197.specs.KeyExpansion.{IsKey}
use Rattle.aes_modes.specs.Counter.{counter_start}
use Rattle.streams_model.specs.Countings.{Counting, ctr_output}
use Rattle.streams_model.specs.Flows.{blocks_done}
use Rattle.streams.specs.declared.ctr_stream.CtrStream.TheInside.{Inside}

abbrev pub counting_of : Inside → Counting
counting_of s = record { bits = s.bits; start = s.start.bytes; key = s.key; taken = s.taken.bytes }

-- the number of the block that the last byte is in, and how many blocks may follow it
pub record Holds (s : Inside) : Type 0 where
  pub number : s.number ≡ from_be_bytes w128 s.start.bytes + blocks_done 1 s.taken.bytes
  pub left : counter_start s.bits s.start.bytes + blocks_done 1 s.taken.bytes + (s.left + 1) ≡ 2 ^ s.bits
  pub bits : s.bits ≤ 128
  pub is_key : IsKey s.key
  pub bytes : AreBytes (ctr_output (counting_of s))
  pub kept : s.kept ≡ drop (16 * blocks_done 1 s.taken.bytes) s.taken.bytes
