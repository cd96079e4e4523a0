-- The exclusive or of two lists, byte by byte.
use Rattle.std.proofs.Common.{◌≡◌, ℕ, zero, suc, ◌-◌, ◌<◌, ◌≤◌, List, [], ◌∷◌, ◌++◌, length, take, drop, set, get_or, replicate, bit_xor, ap, refl, sym, ◌∙◌, arith}
use Rattle.std.proofs.lemmas.List.{take-replicate}
use Rattle.std.proofs.lemmas.Nat.{xor_comm}
use Rattle.std.specs.Int.Bits.{xor_zero_l}
use Rattle.hmac_sha2.specs.Hmac.{xor_strings, zero_padded}

-- the first i bytes done
abbrev pub done : List ℕ → List ℕ → ℕ → List ℕ
done xs ys i = xor_strings xs (take i ys) ++ drop i xs

-- byte i is still as it was
pub get_or-done : (xs ys : List ℕ) (i : ℕ) → i < length xs → i < length ys → get_or (done xs ys i) i 0 ≡ get_or xs i 0
unfolding xor_strings
get_or-done [] ys i lt _ = absurd (omega arith)
get_or-done (x ∷ xs) [] i _ lt = absurd (omega arith)
get_or-done (x ∷ xs) (y ∷ ys) zero _ _ = refl
get_or-done (x ∷ xs) (y ∷ ys) (suc i) lx ly = get_or-done xs ys i (omega arith) (omega arith)

-- and with it i + 1 bytes are done
pub set-done : (xs ys : List ℕ) (i : ℕ) → i < length xs → i < length ys
    → set (done xs ys i) i (bit_xor (get_or xs i 0) (get_or ys i 0)) ≡ done xs ys (suc i)
unfolding xor_strings
set-done [] ys i lt _ = absurd (omega arith)
set-done (x ∷ xs) [] i _ lt = absurd (omega arith)
set-done (x ∷ xs) (y ∷ ys) zero _ _ = refl
set-done (x ∷ xs) (y ∷ ys) (suc i) lx ly = ap (λ l. bit_xor x y ∷ l) (set-done xs ys i (omega arith) (omega arith))

-- the byte 0 changes nothing
xor_bytes-zeros : (n pad : ℕ) → xor_strings (replicate n 0) (replicate n pad) ≡ replicate n pad
unfolding xor_strings
xor_bytes-zeros zero pad = refl
xor_bytes-zeros (suc n) pad = λ i. xor_zero_l pad i ∷ xor_bytes-zeros n pad i

-- a key put into a row of pads
row : List ℕ → ℕ → ℕ → List ℕ
row key pad n = xor_strings (replicate n pad) key ++ drop (length key) (replicate n pad)

take-row : (key : List ℕ) (pad n m : ℕ) → length key ≤ n → n ≤ m → take n (row key pad m) ≡ xor_strings (zero_padded n key) (replicate n pad)
unfolding row xor_strings zero_padded
take-row [] pad n m _ le =
    let all : n - 0 ≡ n = omega arith in
    take-replicate n m pad le ∙ sym (rw all (xor_bytes-zeros n pad))
take-row (k ∷ ks) pad zero m le _ = absurd (omega arith)
take-row (k ∷ ks) pad (suc n) zero _ le = absurd (omega arith)
take-row (k ∷ ks) pad (suc n) (suc m) le lt =
    let rest : suc n - suc (length ks) ≡ n - length ks = omega arith in
    rw rest (λ i. xor_comm pad k i ∷ take-row ks pad n m (omega arith) (omega arith) i)

-- is, up to any n that the key fits in, the key and its zeros under n pads
pub take-padded : (key block : List ℕ) (pad n m : ℕ)
    → block ≡ xor_strings (replicate m pad) key ++ drop (length key) (replicate m pad) → length key ≤ n → n ≤ m
    → take n block ≡ xor_strings (zero_padded n key) (replicate n pad)
unfolding row
take-padded key block pad n m is fits le = ap (take n) is ∙ take-row key pad n m fits le

pub length-xor_bytes : (xs ys : List ℕ) → length xs ≡ length ys → length (xor_strings xs ys) ≡ length xs
unfolding xor_strings
length-xor_bytes [] [] e = refl
length-xor_bytes [] (y ∷ ys) e = refl
length-xor_bytes (x ∷ xs) [] e = absurd (omega arith)
length-xor_bytes (x ∷ xs) (y ∷ ys) e = ap suc (length-xor_bytes xs ys (omega arith))
