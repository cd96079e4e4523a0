-- The iterates U_n of PBKDF2 and their exclusive or.
use Rattle.std.proofs.Common.{◌≡◌, ℕ, zero, suc, ◌≤◌, List, length, refl, sym, ◌∙◌, arith}
use Rattle.std.proofs.lemmas.List.{take_all}
use Rattle.sha2.proofs.Facts256.{length-sha256}
use Rattle.hmac_sha2.specs.Hmac.{xor_strings, hmac, hmac256}
use Rattle.hmac_sha2.specs.Pbkdf2.{iterate, block, blocks, derived_key, pbkdf2}
use Rattle.hmac_sha2.proofs.XorBytes.{length-xor_bytes}

-- one more round
pub block-suc : (prf : List ℕ → List ℕ → List ℕ) (password salt : List ℕ) (n i : ℕ) → 1 ≤ n
    → block prf password salt (suc n) i ≡ xor_strings (block prf password salt n i) (iterate prf password salt i (suc n))
unfolding block
block-suc prf password salt zero i some = absurd (omega arith)
block-suc prf password salt (suc n) i some = refl

length-hmac256 : (key message : List ℕ) → length (hmac256 key message) ≡ 32
unfolding hmac
length-hmac256 key message = length-sha256 _

length-iterate : (password salt : List ℕ) (i n : ℕ) → length (iterate hmac256 password salt i (suc n)) ≡ 32
unfolding iterate
length-iterate password salt i n = length-hmac256 password (iterate hmac256 password salt i n)

-- a block of one round or more is as long as a digest
pub length-block : (password salt : List ℕ) (n i : ℕ) → 1 ≤ n → length (block hmac256 password salt n i) ≡ 32
unfolding block
length-block password salt zero i some = absurd (omega arith)
length-block password salt (suc zero) i some = length-iterate password salt i 0
length-block password salt (suc (suc n)) i some =
    let before = length-block password salt (suc n) i (omega arith) in
    length-xor_bytes _ _ (before ∙ sym (length-iterate password salt i (suc n))) ∙ before

-- a key of 32 bytes is the first block
pub pbkdf2-block : (password salt : List ℕ) (n : ℕ) → 1 ≤ n → pbkdf2 password salt n ≡ block hmac256 password salt n 1
unfolding pbkdf2 derived_key blocks
pbkdf2-block password salt n some =
    take_all 32 (block hmac256 password salt n 1) (omega (arith, length-block password salt n 1 some))
