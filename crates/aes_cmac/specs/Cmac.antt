-- CMAC (SP 800-38B) with AES. Section and step numbers are the standard's. Blocks of a message are
-- counted from 0, and the standard's from 1.
use Rattle.std.specs.Prelude.{ℕ, zero, suc, ◌+◌, ◌-◌, ◌*◌, ◌/◌, ◌%◌, ◌^◌, List, ◌∷◌, ◌++◌, length, drop, replicate, bit_xor, nat_lt, ◌==◌, if◌then◌else◌}
use Rattle.std.specs.Int.{w128, from_be_bytes, to_be_bytes}
use Rattle.fips_197.specs.Bytes.{xor_bytes}
use Rattle.fips_197.specs.Texts.{block_of}
use Rattle.fips_197.specs.Encrypt.{encrypted_block}

-- ---- the subkeys (6.1)

-- R_128, the block 0^120 10000111 (5.3), as a number
abbrev pub reduction : ℕ
reduction = 0x87

-- a block, as the number whose highest bit is the block's first, one bit to the left (steps 2 and 3). R_128 is added
-- where the bit that falls out is 1.
unfoldable pub doubled : List ℕ → List ℕ
doubled block =
    let number = from_be_bytes w128 block in
    to_be_bytes w128 (if nat_lt number (2 ^ 127) then 2 * number else bit_xor (2 * number % 2 ^ 128) reduction)

-- K1, from L = CIPH_K(0^128) (steps 1 and 2)
unfoldable pub first_subkey : List ℕ → List ℕ
first_subkey key = doubled (encrypted_block key (replicate 16 0))

-- K2 (step 3)
unfoldable pub second_subkey : List ℕ → List ℕ
second_subkey key = doubled (first_subkey key)

-- ---- the tag (6.2)

-- n, how many blocks the message has: at least one, of which the last may be shorter (step 2)
abbrev pub block_count : List ℕ → ℕ
block_count message = if length message == 0 then 1 else (length message + 15) / 16

-- how many blocks stand before the last
abbrev pub count_before_last : List ℕ → ℕ
count_before_last message = block_count message - 1

-- M_n, of the bytes that the message has behind the blocks before: a whole one with K1 added, another
-- one with 1 0^j behind it and K2 added (step 4)
unfoldable pub last_block : List ℕ → List ℕ → List ℕ
last_block key rest =
    if length rest == 16 then xor_bytes (first_subkey key) rest
    else xor_bytes (second_subkey key) (rest ++ 0x80 ∷ replicate (15 - length rest) 0)

-- C_i for the blocks before the last (step 3): C_0 is 0^128, and C_i is CIPH_K(C_(i-1) ⊕ M_i) (steps 5 and 6)
unfoldable pub chained : List ℕ → List ℕ → ℕ → List ℕ
chained key message zero = replicate 16 0
chained key message (suc i) = encrypted_block key (xor_bytes (chained key message i) (block_of message i))

-- T = C_n (steps 6 and 7, with Tlen = 128)
unfoldable pub cmac : List ℕ → List ℕ → List ℕ
cmac key message =
    let before = count_before_last message in
    encrypted_block key (xor_bytes (chained key message before) (last_block key (drop (16 * before) message)))
