-- The mechanisms of the token: for what each is, and with which keys (PKCS #11 v3.1, 3.5: CK_MECHANISM_INFO, 5.5:
-- C_GetMechanismList and C_GetMechanismInfo). Which of the standard's mechanisms there are, and for what, is this token's
-- own profile.
use Rattle.std.specs.Prelude.{ℕ, Bool, true, false, ◌&&◌, ◌==◌, List, [], ◌∷◌, map, find, Option}
use Rattle.ck_types.specs.declared.key_type.KeyType.{KeyType}
use Rattle.ck_types.specs.declared.key_type.KeyType.TheVariants.{Aes, GenericSecret}
use Rattle.ck_types.specs.declared.mech_type.MechType.{MechType}
use Rattle.ck_types.specs.declared.mech_type.MechType.TheVariants as mechanism
use Rattle.ck_types.specs.Numbers.{mech_type_number}
use Rattle.ck_calls.specs.declared.reply.MechanismInfo.{MechanismInfo}
use Rattle.ck_mechanisms.specs.declared.purpose.Purpose.{Purpose}
use Rattle.ck_mechanisms.specs.declared.purpose.Purpose.TheVariants.{Cipher, Mac, Generation, Wrapping}

-- by rising number
abbrev pub listed : List MechType
listed =
    mechanism.Sha256Hmac ∷ mechanism.Sha224Hmac ∷ mechanism.Sha384Hmac ∷ mechanism.Sha512Hmac ∷
    mechanism.GenericSecretKeyGen ∷ mechanism.AesKeyGen ∷ mechanism.AesEcb ∷ mechanism.AesCbc ∷ mechanism.AesCbcPad ∷
    mechanism.AesCtr ∷ mechanism.AesCmac ∷ mechanism.AesKeyWrap ∷ []

abbrev pub listed_numbers : List ℕ
listed_numbers = map mech_type_number listed

-- what a mechanism is for, and the type of its keys
abbrev pub purpose_of : MechType → Purpose
purpose_of mechanism.Sha256Hmac = Mac
purpose_of mechanism.Sha224Hmac = Mac
purpose_of mechanism.Sha384Hmac = Mac
purpose_of mechanism.Sha512Hmac = Mac
purpose_of mechanism.GenericSecretKeyGen = Generation
purpose_of mechanism.AesKeyGen = Generation
purpose_of mechanism.AesEcb = Cipher
purpose_of mechanism.AesCbc = Cipher
purpose_of mechanism.AesCbcPad = Cipher
purpose_of mechanism.AesCtr = Cipher
purpose_of mechanism.AesCmac = Mac
purpose_of mechanism.AesKeyWrap = Wrapping

abbrev pub mech_key_type : MechType → KeyType
mech_key_type mechanism.Sha256Hmac = GenericSecret
mech_key_type mechanism.Sha224Hmac = GenericSecret
mech_key_type mechanism.Sha384Hmac = GenericSecret
mech_key_type mechanism.Sha512Hmac = GenericSecret
mech_key_type mechanism.GenericSecretKeyGen = GenericSecret
mech_key_type mechanism.AesKeyGen = Aes
mech_key_type mechanism.AesEcb = Aes
mech_key_type mechanism.AesCbc = Aes
mech_key_type mechanism.AesCbcPad = Aes
mech_key_type mechanism.AesCtr = Aes
mech_key_type mechanism.AesCmac = Aes
mech_key_type mechanism.AesKeyWrap = Aes

-- CKF_ENCRYPT and CKF_DECRYPT, CKF_SIGN and CKF_VERIFY, CKF_GENERATE, CKF_WRAP and CKF_UNWRAP
abbrev pub flags_of : Purpose → ℕ
flags_of Cipher = 0x300
flags_of Mac = 0x2800
flags_of Generation = 0x8000
flags_of Wrapping = 0x60000

-- AES keys have 16, 24 or 32 bytes, and secrets 1 to 512; where a generic secret is generated, its length is reported in bits
-- (2.30 and 2.36 of the mechanisms)
abbrev pub sizes_in : Purpose → KeyType → ℕ × ℕ
sizes_in purpose Aes = (16, 32)
sizes_in Generation GenericSecret = (8, 4096)
sizes_in _ GenericSecret = (1, 512)

abbrev pub info_of : MechType → MechanismInfo
info_of m =
    let sizes : ℕ × ℕ = sizes_in (purpose_of m) (mech_key_type m) in
    record { min_key_size = sizes.0; max_key_size = sizes.1; flags = flags_of (purpose_of m) }

-- ---- by a number

abbrev pub is_same : Purpose → Purpose → Bool
is_same Cipher Cipher = true
is_same Mac Mac = true
is_same Generation Generation = true
is_same Wrapping Wrapping = true
is_same _ _ = false

unfoldable pub mechanism_at : ℕ → Option MechType
mechanism_at number = find (λ m. mech_type_number m == number) listed

-- the mechanism of this number, where it is for this
unfoldable pub mechanism_for : Purpose → ℕ → Option MechType
mechanism_for purpose number = find (λ m. mech_type_number m == number && is_same (purpose_of m) purpose) listed
