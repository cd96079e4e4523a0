-- The table of lengths: how long an output buffer each call needs, and which data is refused. `d` counts all data, that
-- of the call included.
use Rattle.std.specs.Prelude.{ℕ, ◌+◌, ◌-◌, ◌*◌, ◌/◌, ◌%◌, ◌^◌, ◌==◌, nat_lt, Bool, false, not, ◌||◌, List, ◌++◌, length}
use Rattle.aes_modes.specs.Blocks.{blocks_begun}
use Rattle.aes_modes.specs.Counter.{counter_start}
use Rattle.aes_modes.specs.declared.direction.Direction.{Direction}
use Rattle.aes_modes.specs.declared.direction.Direction.TheVariants.{Encrypt, Decrypt}
use Rattle.streams.specs.declared.mechanism.Mechanism.{Mechanism}
use Rattle.streams.specs.declared.mechanism.Mechanism.TheVariants.{Ecb, Cbc, CbcPad, Ctr}
use Rattle.streams.specs.declared.part.Part.{Part}
use Rattle.streams.specs.declared.part.Part.TheVariants.{Update, Last}
use Rattle.streams.specs.Streamed.{Streamed}

-- how many bytes are output before the end is known: the whole blocks, but where a padding is taken off the last
-- block stays buffered, and CTR outputs each byte
abbrev pub length_so_far : Mechanism → Direction → ℕ → ℕ
length_so_far Ecb direction d = 16 * (d / 16)
length_so_far (Cbc iv) direction d = 16 * (d / 16)
length_so_far (CbcPad iv) Encrypt d = 16 * (d / 16)
length_so_far (CbcPad iv) Decrypt d = 16 * ((d - 1) / 16)
length_so_far (Ctr bits start) direction d = d

-- how many bytes the whole output has; where a padding is taken off, a bound on them
abbrev pub whole_length : Mechanism → Direction → ℕ → ℕ
whole_length Ecb direction d = d
whole_length (Cbc iv) direction d = d
whole_length (CbcPad iv) Encrypt d = 16 * (d / 16 + 1)
whole_length (CbcPad iv) Decrypt d = d
whole_length (Ctr bits start) direction d = d

-- the output buffer that a call with n bytes of data needs: what the output then has, less what was output before
abbrev pub wanted : Part → Streamed → ℕ → ℕ
wanted Update s n = length_so_far s.mechanism s.direction (length s.taken + n) - length s.given
wanted Last s n = whole_length s.mechanism s.direction (length s.taken + n) - length s.given

-- so many bytes can't be all data: ECB and CBC take whole blocks, and decrypting a padded text one at least
abbrev pub is_of_no_text : Mechanism → Direction → ℕ → Bool
is_of_no_text Ecb direction d = not (d % 16 == 0)
is_of_no_text (Cbc iv) direction d = not (d % 16 == 0)
is_of_no_text (CbcPad iv) Encrypt d = false
is_of_no_text (CbcPad iv) Decrypt d = (d == 0) || not (d % 16 == 0)
is_of_no_text (Ctr bits start) direction d = false

-- a call with n bytes of data is refused for the length: where data ends with it that can't be all
abbrev pub refuses_length : Part → Streamed → ℕ → Bool
refuses_length Update s n = false
refuses_length Last s n = is_of_no_text s.mechanism s.direction (length s.taken + n)

-- CTR has no counter for each block of the text (SP 800-38A, appendix B.1)
abbrev pub is_past_counters : Mechanism → List ℕ → Bool
is_past_counters Ecb text = false
is_past_counters (Cbc iv) text = false
is_past_counters (CbcPad iv) text = false
is_past_counters (Ctr bits start) text = nat_lt (2 ^ bits) (counter_start bits start + blocks_begun text)

-- more data has no counters
abbrev pub ends_counters : Streamed → List ℕ → Bool
ends_counters s piece = is_past_counters s.mechanism (s.taken ++ piece)
