-- The key wrap of RFC 3394 with AES, in the index form of its section 2.2.1. The registers A, R[1],
-- ..., R[n] stand in a row, as halves of a block: A is half 0, and R[i] is half i.
use Rattle.std.specs.Prelude.{◌≡◌, ℕ, zero, suc, ◌+◌, ◌-◌, ◌*◌, ◌/◌, ◌%◌, ◌≤◌, List, ◌++◌, length, take, drop, replicate}
use Rattle.std.specs.Int.{w64, to_be_bytes}
use Rattle.fips_197.specs.Bytes.{AreBytes, xor_bytes}
use Rattle.fips_197.specs.Encrypt.{encrypted_block}

-- half i of a row of halves, which have 8 bytes. Of a block, half 0 is MSB(64, B) and half 1 LSB(64, B)
unfoldable pub half : List ℕ → ℕ → List ℕ
half row i = take 8 (drop (8 * i) row)

-- the row with another half i
unfoldable pub with_half : List ℕ → ℕ → List ℕ → List ℕ
with_half row i x = take (8 * i) row ++ (x ++ drop (8 * i + 8) row)

-- step t (2.2.1, step 2), which is the one of the j from 0 to 5 and the i from 1 to n with t = n * j + i:
-- B = AES(K, A | R[i]), A = MSB(64, B) ^ t, R[i] = LSB(64, B)
unfoldable pub step : List ℕ → ℕ → ℕ → List ℕ → List ℕ
step key n t registers =
    let i = (t - 1) % n + 1 in
    let b = encrypted_block key (half registers 0 ++ half registers i) in
    with_half (with_half registers 0 (xor_bytes (half b 0) (to_be_bytes w64 t))) i (half b 1)

-- the registers after the first t steps
unfoldable pub after_steps : List ℕ → ℕ → List ℕ → ℕ → List ℕ
after_steps key n registers zero = registers
after_steps key n registers (suc t) = step key n (suc t) (after_steps key n registers t)

-- the initial value of A (2.2.3.1)
abbrev pub initial_value : List ℕ
initial_value = replicate 8 0xA6

-- what can be wrapped: two or more whole halves (2)
pub record IsValue (value : List ℕ) : Type 0 where
  pub least : 16 ≤ length value
  pub whole : length value % 8 ≡ 0
  pub bytes : AreBytes value

-- the wrapping of a value: the registers after 6 n steps, from the initial value and the value (2.2.1)
unfoldable pub wrapped : List ℕ → List ℕ → List ℕ
wrapped key value =
    let n = length value / 8 in
    after_steps key n (initial_value ++ value) (6 * n)
