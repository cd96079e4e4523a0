-- PBKDF2 (RFC 8018, section 5.2) as a function on lists of bytes, over any pseudorandom function of a
-- password and a text. The names in brackets are the RFC's.
use Rattle.std.specs.Prelude.{ℕ, zero, suc, ◌+◌, ◌-◌, ◌/◌, List, [], ◌++◌, take}
use Rattle.std.specs.Int.{w32, to_be_bytes}
use Rattle.hmac_sha2.specs.Hmac.{xor_strings, hmac256}

-- the iterate U_n of block i: U_0 is S || INT (i), and each next one the PRF of the one before (step 3)
unfoldable pub iterate : (List ℕ → List ℕ → List ℕ) → List ℕ → List ℕ → ℕ → ℕ → List ℕ
iterate prf password salt i zero = salt ++ to_be_bytes w32 i
iterate prf password salt i (suc n) = prf password (iterate prf password salt i n)

-- the block T_i = F (P, S, c, i): the exclusive or of the first c iterates U_1, …, U_c, for a count c
-- of 1 or more (step 3)
unfoldable pub block : (List ℕ → List ℕ → List ℕ) → List ℕ → List ℕ → ℕ → ℕ → List ℕ
block prf password salt zero i = []
block prf password salt (suc zero) i = iterate prf password salt i 1
block prf password salt (suc (suc n)) i =
    xor_strings (block prf password salt (suc n) i) (iterate prf password salt i (suc (suc n)))

-- T_1 || … || T_l (step 4)
unfoldable pub blocks : (ℕ → List ℕ) → ℕ → List ℕ
blocks block_at zero = []
blocks block_at (suc l) = blocks block_at l ++ block_at (suc l)

-- the derived key [DK] of a length [dkLen] in bytes, under a PRF of values of prf_length bytes [hLen]:
-- l is their quotient, rounded up (step 2), and the key is the first bytes of the l blocks (step 4)
unfoldable pub derived_key : (List ℕ → List ℕ → List ℕ) → ℕ → List ℕ → List ℕ → ℕ → ℕ → List ℕ
derived_key prf prf_length password salt count key_length =
    take key_length (blocks (block prf password salt count) ((key_length + prf_length - 1) / prf_length))

-- PBKDF2 with HMAC-SHA-256 (appendix B.1.2) for a key of 32 bytes
unfoldable pub pbkdf2 : List ℕ → List ℕ → ℕ → List ℕ
pbkdf2 password salt count = derived_key hmac256 32 password salt count 32
