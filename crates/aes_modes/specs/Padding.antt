-- The padding of PKCS #7 (RFC 5652, 6.3) to blocks of 16 bytes.
use Rattle.std.specs.Prelude.{ℕ, ◌-◌, ◌%◌, List, ◌++◌, length, replicate}

-- how many bytes are added: 1 to 16
unfoldable pub pad_count : List ℕ → ℕ
pad_count text = 16 - length text % 16

-- a text with its padding: each byte that is added is their number
unfoldable pub padded : List ℕ → List ℕ
padded text = text ++ replicate (pad_count text) (pad_count text)
