-- The value of a wrapping: the one that the wrapping key wraps to it (RFC 3394, 2.2; PKCS #11 v3.1, 5.18).
use Rattle.std.specs.Prelude.{ℕ, Bool, ◌&&◌, ◌==◌, ◌%◌, nat_le, List, length, Option}
use Rattle.std.specs.Str.{bytes_eq}
use Rattle.ops.specs.Texts.{first_text}
use Rattle.aes_kw.specs.KeyWrap.{wrapped}

-- so many bytes can be wrapped: two or more whole halves of a block
abbrev pub is_value_length : ℕ → Bool
is_value_length n = nat_le 16 n && (n % 8 == 0)

-- the value whose wrapping the bytes are, if there is one
abbrev pub value_wrapped_in : List ℕ → List ℕ → Option (List ℕ)
value_wrapped_in key bytes = first_text (length bytes) (λ x. is_value_length (length x) && bytes_eq (wrapped key x) bytes)
