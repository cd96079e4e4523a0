-- MACs by the five mechanisms: CMAC with AES (SP 800-38B), and HMAC (FIPS 198-1) with four hash
-- functions.
use Rattle.std.specs.Prelude.{ℕ, List}
use Rattle.fips_197.specs.KeyExpansion.{IsKeyLength}
use Rattle.aes_cmac.specs.Cmac.{cmac}
use Rattle.hmac_sha2.specs.Hmac.{hmac224, hmac256, hmac384, hmac512}
use Rattle.macs.specs.declared.mechanism.Mechanism.{Mechanism}
use Rattle.macs.specs.declared.mechanism.Mechanism.TheVariants.{AesCmac, Sha224Hmac, Sha256Hmac, Sha384Hmac, Sha512Hmac}
use Rattle.macs.specs.Authentication.{Authentication}

-- so many bytes can be a key: of AES 16, 24 or 32 (FIPS 197, 5), and of HMAC any (FIPS 198-1, 4, steps
-- 1 to 3)
abbrev pub IsKeyLengthOf : Mechanism → ℕ → Type 0
IsKeyLengthOf AesCmac n = IsKeyLength n
IsKeyLengthOf Sha224Hmac n = Unit {0}
IsKeyLengthOf Sha256Hmac n = Unit {0}
IsKeyLengthOf Sha384Hmac n = Unit {0}
IsKeyLengthOf Sha512Hmac n = Unit {0}

-- how many bytes a tag has: of CMAC a block (SP 800-38B, 6.2, with Tlen = 128), and of HMAC a digest (FIPS 180-4, 1,
-- figure 1)
abbrev pub tag_length : Mechanism → ℕ
tag_length AesCmac = 16
tag_length Sha224Hmac = 28
tag_length Sha256Hmac = 32
tag_length Sha384Hmac = 48
tag_length Sha512Hmac = 64

-- the tag of a message under a key
abbrev pub tag_under : Mechanism → List ℕ → List ℕ → List ℕ
tag_under AesCmac key message = cmac key message
tag_under Sha224Hmac key message = hmac224 key message
tag_under Sha256Hmac key message = hmac256 key message
tag_under Sha384Hmac key message = hmac384 key message
tag_under Sha512Hmac key message = hmac512 key message

-- the tag of the message so far
abbrev pub tag_of : Authentication → List ℕ
tag_of a = tag_under a.mechanism a.key a.taken
