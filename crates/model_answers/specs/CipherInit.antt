-- What of C_EncryptInit and C_DecryptInit a cipher has of its own (PKCS #11 v3.1, 5.8 and 5.10): its mechanisms and places.
use Rattle.std.specs.Prelude.{ℕ, Bool, ◌&&◌, ◌==◌, nat_le, if◌then◌else◌, List, length, take, drop, Option, Some, None}
use Rattle.std.specs.Int.{w64, from_be_bytes}
use Rattle.ck_types.specs.declared.attr_type.AttrType.TheVariants as attr
use Rattle.ck_types.specs.declared.mech_type.MechType.{MechType}
use Rattle.ck_types.specs.declared.mech_type.MechType.TheVariants as mechanism
use Rattle.aes_modes.specs.declared.direction.Direction.{Direction}
use Rattle.aes_modes.specs.declared.direction.Direction.TheVariants.{Encrypt, Decrypt}
use Rattle.streams.specs.declared.mechanism.Mechanism.{Mechanism as CipherMechanism}
use Rattle.streams.specs.declared.mechanism.Mechanism.TheVariants.{Ecb, Cbc, CbcPad, Ctr}
use Rattle.precede.specs.Condition.{code_of}
use Rattle.ops.specs.declared.place.Place.{Place}
use Rattle.ops.specs.declared.place.Place.TheVariants as places
use Rattle.ops.specs.Operations.{started}
use Rattle.model_views.specs.Calls.{Entry, Ok, Code, attribute_of, Condition, View, Answer, becomes, with_operation}

-- the place of the operation
abbrev pub place_for : Direction → Place
place_for Encrypt = places.Encrypt
place_for Decrypt = places.Decrypt

-- ---- mechanisms that encrypt and decrypt

-- the parameter of CKM_AES_CTR: how many bits count, as a number of eight bytes, and the first counter block (6.11)
abbrev pub counter_bits : List ℕ → ℕ
counter_bits parameter = from_be_bytes w64 (take 8 parameter)

abbrev pub is_counter_parameter : List ℕ → Bool
is_counter_parameter parameter = (length parameter == 24) && (nat_le 1 (counter_bits parameter) && nat_le (counter_bits parameter) 128)

-- a mechanism with its parameter, where it is one of the mechanism: none of CKM_AES_ECB, an initialization vector of the
-- two of CBC (6.10)
abbrev pub with_parameter : MechType → List ℕ → Option CipherMechanism
with_parameter mechanism.AesEcb parameter = if length parameter == 0 then Some Ecb else None
with_parameter mechanism.AesCbc parameter = if length parameter == 16 then Some (Cbc parameter) else None
with_parameter mechanism.AesCbcPad parameter = if length parameter == 16 then Some (CbcPad parameter) else None
with_parameter mechanism.AesCtr parameter =
    if is_counter_parameter parameter then Some (Ctr (counter_bits parameter) (drop 8 parameter)) else None
-- MACs, wrapping and generation
with_parameter mechanism.AesCmac parameter = None
with_parameter mechanism.Sha224Hmac parameter = None
with_parameter mechanism.Sha256Hmac parameter = None
with_parameter mechanism.Sha384Hmac parameter = None
with_parameter mechanism.Sha512Hmac parameter = None
with_parameter mechanism.AesKeyWrap parameter = None
with_parameter mechanism.AesKeyGen parameter = None
with_parameter mechanism.GenericSecretKeyGen parameter = None

-- ---- what becomes of the operation

-- the operation at a place ends with a code, if there is one
abbrev pub cipher_ends : View → ℕ → Place → Condition → Answer
cipher_ends v s place row = becomes (Code (code_of Ok row)) (with_operation v s place None)

-- an operation with a copy of the key
abbrev pub cipher_begins : Direction → View → ℕ → CipherMechanism → List Entry → Answer
cipher_begins d v s mechanism key = becomes (Code Ok) (with_operation v s (place_for d) (Some (started mechanism d (attribute_of key attr.Value))))
