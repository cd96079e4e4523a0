-- How long tags are.
use Rattle.std.proofs.Common.{◌≡◌, ℕ, ◌-◌, ◌≤◌, List, length, refl, sym, ◌∙◌, arith}
use Rattle.sha2.proofs.Facts256.{length-sha224, length-sha256}
use Rattle.sha2.proofs.Facts512.{length-sha384, length-sha512}
use Rattle.fips_197.specs.State.{state}
use Rattle.fips_197.specs.Cipher.{shift_rows, add_round_key, round_key, substitute_bytes, state_after, last_round, cipher}
use Rattle.fips_197.specs.KeyExpansion.{IsKey, key_expansion, round_count}
use Rattle.fips_197.specs.Encrypt.{encrypted_block}
use Rattle.fips_197.proofs.Blocks.{length-xor_bytes}
use Rattle.fips_197.proofs.KeySchedules.{IsBlock-round_key}
use Rattle.aes_cmac.specs.Cmac.{cmac}
use Rattle.hmac_sha2.specs.Hmac.{hmac}
use Rattle.macs.specs.declared.mechanism.Mechanism.{Mechanism}
use Rattle.macs.specs.declared.mechanism.Mechanism.TheVariants.{AesCmac, Sha224Hmac, Sha256Hmac, Sha384Hmac, Sha512Hmac}
use Rattle.macs.specs.Tags.{tag_length, tag_under}

length-shift_rows : (s : List ℕ) → length (shift_rows s) ≡ 16
unfolding state shift_rows
length-shift_rows s = refl

length-encrypted_block : (key block : List ℕ) → IsKey key → length (encrypted_block key block) ≡ 16
unfolding add_round_key last_round cipher encrypted_block
length-encrypted_block key block is =
    let w : List ℕ = key_expansion key in
    let n : ℕ = round_count key in
    let le : n ≤ n = omega arith in
    let s : List ℕ = substitute_bytes (state_after w block (n - 1)) in
    length-xor_bytes (shift_rows s) (round_key w n) (length-shift_rows s ∙ sym (IsBlock-round_key key n is le).size)
    ∙ length-shift_rows s

-- bytes that are a key of a mechanism
abbrev pub IsKeyOf : Mechanism → List ℕ → Type 0
IsKeyOf AesCmac key = IsKey key
IsKeyOf Sha224Hmac key = Unit {0}
IsKeyOf Sha256Hmac key = Unit {0}
IsKeyOf Sha384Hmac key = Unit {0}
IsKeyOf Sha512Hmac key = Unit {0}

-- a tag has the mechanism's length
pub length-tag_under : (mechanism : Mechanism) (key message : List ℕ) → IsKeyOf mechanism key
    → length (tag_under mechanism key message) ≡ tag_length mechanism
unfolding cmac hmac
length-tag_under AesCmac key message is = length-encrypted_block key _ is
length-tag_under Sha224Hmac key message is = length-sha224 _
length-tag_under Sha256Hmac key message is = length-sha256 _
length-tag_under Sha384Hmac key message is = length-sha384 _
length-tag_under Sha512Hmac key message is = length-sha512 _
