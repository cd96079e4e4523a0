-- The parts equal the whole: what the output is, by the modes over whole texts (SP 800-38A, 6).
use Rattle.std.specs.Prelude.{◌≡◌, ℕ, false, List, ◌++◌, length, take}
use Rattle.fips_197.specs.Bytes.{AreBytes}
use Rattle.aes_modes.specs.Modes.{ecb_encrypted, cbc_encrypted, cbc_pad_encrypted, ctr_encrypted}
use Rattle.aes_modes.specs.Directions.{IsTurned}
use Rattle.aes_modes.specs.declared.direction.Direction.{Direction}
use Rattle.aes_modes.specs.declared.direction.Direction.TheVariants.{Encrypt, Decrypt}
use Rattle.streams.specs.declared.mechanism.Mechanism.{Mechanism}
use Rattle.streams.specs.declared.mechanism.Mechanism.TheVariants.{Ecb, Cbc, CbcPad, Ctr}
use Rattle.streams.specs.Streamed.{Streamed}
use Rattle.streams.specs.Lengths.{length_so_far, is_of_no_text}

-- a text before its padding, encrypted: of ECB and CBC a text of whole blocks
abbrev pub encrypted : Mechanism → List ℕ → List ℕ → List ℕ
encrypted Ecb key text = ecb_encrypted key text
encrypted (Cbc iv) key text = cbc_encrypted key iv text
encrypted (CbcPad iv) key text = cbc_encrypted key iv text
encrypted (Ctr bits start) key text = ctr_encrypted key bits start text

-- a whole text, encrypted
abbrev pub whole_encrypted : Mechanism → List ℕ → List ℕ → List ℕ
whole_encrypted Ecb key text = ecb_encrypted key text
whole_encrypted (Cbc iv) key text = cbc_encrypted key iv text
whole_encrypted (CbcPad iv) key text = cbc_pad_encrypted key iv text
whole_encrypted (Ctr bits start) key text = ctr_encrypted key bits start text

-- as many bytes of the data as the table has were encrypted or decrypted to the output so far, and to nothing else
pub record IsRight (s : Streamed) : Type 0 where
  pub size : length s.given ≡ length_so_far s.mechanism s.direction (length s.taken)
  pub turned : IsTurned s.direction (encrypted s.mechanism s.key) (take (length s.given) s.taken) s.given
  pub only : (x : List ℕ) → AreBytes x → length x ≡ length s.given
      → IsTurned s.direction (encrypted s.mechanism s.key) (take (length s.given) s.taken) x → x ≡ s.given

-- `out` is the final part of what all data is encrypted or decrypted to
abbrev pub IsFinalPart : Streamed → List ℕ → Type 0
IsFinalPart s out = IsTurned s.direction (whole_encrypted s.mechanism s.key) s.taken (s.given ++ out)

-- a text that the mechanism encrypts
abbrev pub IsText : Mechanism → List ℕ → Type 0
IsText mechanism text = is_of_no_text mechanism Encrypt (length text) ≡ false

-- and nothing else is the final part
abbrev pub IsOnlyRest : Streamed → List ℕ → Type 0
IsOnlyRest s out = (x : List ℕ) → AreBytes x → IsText s.mechanism x
    → IsTurned s.direction (whole_encrypted s.mechanism s.key) s.taken x → x ≡ s.given ++ out

-- a padding is to be taken off
abbrev pub TakesPaddingOff : Mechanism → Direction → Type 0
TakesPaddingOff (CbcPad iv) Decrypt = Unit {0}
TakesPaddingOff _ _ = ⊥
