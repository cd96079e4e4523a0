-- What of C_SignInit and C_VerifyInit a MAC has of its own (PKCS #11 v3.1, 5.13 and 5.15): its mechanisms.
use Rattle.std.specs.Prelude.{ℕ, ◌==◌, if◌then◌else◌, List, length, Option, Some, None}
use Rattle.ck_types.specs.declared.attr_type.AttrType.TheVariants as attr
use Rattle.ck_types.specs.declared.mech_type.MechType.{MechType}
use Rattle.ck_types.specs.declared.mech_type.MechType.TheVariants as mechanism
use Rattle.macs.specs.declared.mechanism.Mechanism.{Mechanism as MacMechanism}
use Rattle.macs.specs.declared.mechanism.Mechanism.TheVariants.{AesCmac, Sha224Hmac, Sha256Hmac, Sha384Hmac, Sha512Hmac}
use Rattle.precede.specs.Condition.{code_of}
use Rattle.ops.specs.declared.place.MacPlace.{MacPlace}
use Rattle.ops.specs.Operations.{mac_started}
use Rattle.model_views.specs.Answering.{with_mac}
use Rattle.model_views.specs.Calls.{Entry, Ok, Code, attribute_of, Condition, View, Answer, becomes}

-- ---- mechanisms that make MACs

-- a mechanism, which has no parameter
abbrev pub without_parameter : MacMechanism → List ℕ → Option MacMechanism
without_parameter m parameter = if length parameter == 0 then Some m else None

abbrev pub mac_mechanism_with : MechType → List ℕ → Option MacMechanism
mac_mechanism_with mechanism.AesCmac parameter = without_parameter AesCmac parameter
mac_mechanism_with mechanism.Sha224Hmac parameter = without_parameter Sha224Hmac parameter
mac_mechanism_with mechanism.Sha256Hmac parameter = without_parameter Sha256Hmac parameter
mac_mechanism_with mechanism.Sha384Hmac parameter = without_parameter Sha384Hmac parameter
mac_mechanism_with mechanism.Sha512Hmac parameter = without_parameter Sha512Hmac parameter
-- ciphers, wrapping and generation
mac_mechanism_with mechanism.AesEcb parameter = None
mac_mechanism_with mechanism.AesCbc parameter = None
mac_mechanism_with mechanism.AesCbcPad parameter = None
mac_mechanism_with mechanism.AesCtr parameter = None
mac_mechanism_with mechanism.AesKeyWrap parameter = None
mac_mechanism_with mechanism.AesKeyGen parameter = None
mac_mechanism_with mechanism.GenericSecretKeyGen parameter = None

-- ---- what becomes of the operation

-- the operation at a place ends with a code, if there is one
abbrev pub mac_ends : View → ℕ → MacPlace → Condition → Answer
mac_ends v s place row = becomes (Code (code_of Ok row)) (with_mac v s place None)

-- an operation with a copy of the key
abbrev pub mac_begins : MacPlace → View → ℕ → MacMechanism → List Entry → Answer
mac_begins p v s mechanism key = becomes (Code Ok) (with_mac v s p (Some (mac_started mechanism (attribute_of key attr.Value))))
