-- HMAC (FIPS 198-1) as a function on lists of bytes, over any hash function. Section numbers are the
-- standard's. A hash function takes a message to its digest, and its block size B is in bytes.
use Rattle.std.specs.Prelude.{ℕ, ◌-◌, List, [], ◌∷◌, ◌++◌, length, replicate, bit_xor, nat_le, if◌then◌else◌}
use Rattle.sha2.specs.Sha256.{sha224, sha256}
use Rattle.sha2.specs.Sha512.{sha384, sha512}

-- the exclusive or of two strings of bytes, as far as both go
unfoldable pub xor_strings : List ℕ → List ℕ → List ℕ
xor_strings xs [] = []
xor_strings [] (y ∷ ys) = []
xor_strings (x ∷ xs) (y ∷ ys) = bit_xor x y ∷ xor_strings xs ys

-- a string of at most B bytes, with zeros up to B (4, steps 2 and 3)
unfoldable pub zero_padded : ℕ → List ℕ → List ℕ
zero_padded block_size bytes = bytes ++ replicate (block_size - length bytes) 0

-- K0: the key with zeros up to a block, hashed first where it is longer (4, steps 1 to 3)
unfoldable pub block_key : (List ℕ → List ℕ) → ℕ → List ℕ → List ℕ
block_key hash block_size key =
    zero_padded block_size (if nat_le (length key) block_size then key else hash key)

-- the bytes that ipad and opad repeat B times (2.3)
abbrev pub inner_pad : ℕ
inner_pad = 0x36

abbrev pub outer_pad : ℕ
outer_pad = 0x5C

-- K0 with a pad (4, steps 4 and 7)
unfoldable pub padded_key : (List ℕ → List ℕ) → ℕ → ℕ → List ℕ → List ℕ
padded_key hash block_size pad key = xor_strings (block_key hash block_size key) (replicate block_size pad)

-- the tag of a message under a key (4, steps 4 to 9)
unfoldable pub hmac : (List ℕ → List ℕ) → ℕ → List ℕ → List ℕ → List ℕ
hmac hash block_size key message =
    hash (padded_key hash block_size outer_pad key ++ hash (padded_key hash block_size inner_pad key ++ message))

-- ---- the four MACs, with the block sizes of FIPS 180-4 (1, figure 1)

-- HMAC with SHA-224
abbrev pub hmac224 : List ℕ → List ℕ → List ℕ
hmac224 = hmac sha224 64

-- HMAC with SHA-256
abbrev pub hmac256 : List ℕ → List ℕ → List ℕ
hmac256 = hmac sha256 64

-- HMAC with SHA-384
abbrev pub hmac384 : List ℕ → List ℕ → List ℕ
hmac384 = hmac sha384 128

-- HMAC with SHA-512
abbrev pub hmac512 : List ℕ → List ℕ → List ℕ
hmac512 = hmac sha512 128
