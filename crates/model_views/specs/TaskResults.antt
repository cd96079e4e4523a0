-- What the result of a pending call is, as it is returned to the application that called.
use Rattle.std.specs.Prelude.{ℕ, List}
use Rattle.ck_types.specs.declared.entry.Entry.{Entry}
use Rattle.attrs.specs.Masking.{mask as mask_object}

pub data TaskResult : Type 0 where
  -- the output of a cipher, a signature, or a wrapped key
  Output : (bytes : List ℕ) → TaskResult
  -- no text is encrypted to the data: its padding is wrong
  BadPadding : TaskResult
  -- a part of a message was taken, which outputs nothing
  Taken : TaskResult
  -- the key that was made of an unwrapped value
  Unwrapped : (object : List Entry) → TaskResult
  -- the bytes are the wrapping of no value
  BadWrapping : TaskResult
  -- the PIN or the signature is right, or wrong
  Right : TaskResult
  Wrong : TaskResult
  -- a verifier was made, of which nothing is returned
  Made : TaskResult

-- a result as it is revealed: of a masked key the value is left out
abbrev pub mask_outcome : TaskResult → TaskResult
mask_outcome (Output bytes) = Output bytes
mask_outcome BadPadding = BadPadding
mask_outcome Taken = Taken
mask_outcome (Unwrapped object) = Unwrapped (mask_object object)
mask_outcome BadWrapping = BadWrapping
mask_outcome Right = Right
mask_outcome Wrong = Wrong
mask_outcome Made = Made
