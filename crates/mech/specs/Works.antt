-- What work returns.
use Rattle.std.specs.Prelude.{ℕ, Bool, true, false, List, [], length, Option, Some, None, if◌then◌else◌}
use Rattle.std.specs.Str.{bytes_eq}
use Rattle.ck_types.specs.declared.entry.Entry.{Entry}
use Rattle.aes_kw.specs.KeyWrap.{wrapped}
use Rattle.mech.specs.declared.outcome.Outcome.{Outcome}
use Rattle.mech.specs.declared.outcome.Outcome.TheVariants.{Piece, Rest, BadPadding, Taken, Signature, RightSignature, WrongSignature, Wrapped, Unwrapped, BadWrapping, WrongPin, RightPin, PinMade, PinChanged, TokenMade, TokenReset}
use Rattle.mech.specs.declared.work.Work.{Work}
use Rattle.mech.specs.declared.work.Work.TheVariants.{Cipher, Take, Sign, Verify, Wrap, Unwrap, CheckPin, MakePin, ChangePin, InitToken, ResetToken}
use Rattle.mech.specs.Wrappings.{value_wrapped_in}
use Rattle.pin_record.specs.Verifiers.{accepts, new_rounds, verifier_for}
use Rattle.ops.specs.Texts.{Direction, Update, Last, after_piece, update_output, last_output, longer, tag_of}
use Rattle.templates.specs.declared.making.Making.TheVariants as call
use Rattle.templates.specs.Made.{object_made}

abbrev pub rest_of : Direction → Option (List ℕ) → Outcome
rest_of direction None = BadPadding direction
rest_of direction (Some output) = Rest direction output

-- the key that the template makes of a value
abbrev pub key_made : List Entry → List ℕ → List ℕ → List Entry
key_made template random value = object_made (call.Unwrap (length value)) [] template random value

abbrev pub key_of : List Entry → List ℕ → Option (List ℕ) → Outcome
key_of template random None = BadWrapping
key_of template random (Some value) = Unwrapped (key_made template random value)

abbrev pub outcome_of : Work → Outcome
outcome_of (Cipher stream Update input) = Piece (update_output stream input) (after_piece stream input (update_output stream input))
outcome_of (Cipher stream Last input) = rest_of stream.direction (last_output stream input)
outcome_of (Take place mac input) = Taken place (longer mac input)
outcome_of (Sign mac input) = Signature (tag_of (longer mac input))
outcome_of (Verify mac input signature) = if bytes_eq signature (tag_of (longer mac input)) then RightSignature else WrongSignature
outcome_of (Wrap key value) = Wrapped (wrapped key value)
outcome_of (Unwrap key bytes state template random) = key_of template random (value_wrapped_in key bytes)
outcome_of (CheckPin who verifier pin) = if accepts verifier pin then RightPin who else WrongPin
outcome_of (MakePin pin salt) = PinMade (verifier_for pin salt new_rounds)
outcome_of (ChangePin who verifier pin new_pin salt) =
    if accepts verifier pin then PinChanged who (verifier_for new_pin salt new_rounds) else WrongPin
outcome_of (InitToken label pin salt) = TokenMade label (verifier_for pin salt new_rounds)
outcome_of (ResetToken label verifier pin) = if accepts verifier pin then TokenReset label else WrongPin

-- ---- PINs

-- work on a PIN
abbrev pub is_pin_work : Work → Bool
is_pin_work (CheckPin who verifier pin) = true
is_pin_work (MakePin pin salt) = true
is_pin_work (ChangePin who verifier pin new_pin salt) = true
is_pin_work (InitToken label pin salt) = true
is_pin_work (ResetToken label verifier pin) = true
is_pin_work _ = false

-- and what it returns
abbrev pub is_pin_outcome : Outcome → Bool
is_pin_outcome WrongPin = true
is_pin_outcome (RightPin who) = true
is_pin_outcome (PinMade verifier) = true
is_pin_outcome (PinChanged who verifier) = true
is_pin_outcome (TokenMade label verifier) = true
is_pin_outcome (TokenReset label) = true
is_pin_outcome _ = false
