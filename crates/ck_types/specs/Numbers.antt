-- The numbers that PKCS #11 v3.1 gives its codes and types (sections 3.3 to 3.6; values in the
-- header pkcs11t.h), and what it is for two functions to be each other's inverse.
use Rattle.std.specs.Prelude.{◌≡◌, ◌≢◌, ◌==◌, ℕ, List, [], ◌∷◌, Option, Some, None, if◌then◌else◌}
use Rattle.ck_types.specs.declared.rv.Rv.{Rv}
use Rattle.ck_types.specs.declared.rv.Rv.TheVariants as rv
use Rattle.ck_types.specs.declared.attr_type.AttrType.{AttrType}
use Rattle.ck_types.specs.declared.attr_type.AttrType.TheVariants as attr_type
use Rattle.ck_types.specs.declared.mech_type.MechType.{MechType}
use Rattle.ck_types.specs.declared.mech_type.MechType.TheVariants as mech_type
use Rattle.ck_types.specs.declared.user_type.UserType.{UserType}
use Rattle.ck_types.specs.declared.user_type.UserType.TheVariants as user_type
use Rattle.ck_types.specs.declared.session_state.SessionState.{SessionState}
use Rattle.ck_types.specs.declared.session_state.SessionState.TheVariants as session_state
use Rattle.ck_types.specs.declared.object_class.ObjectClass.{ObjectClass}
use Rattle.ck_types.specs.declared.object_class.ObjectClass.TheVariants as object_class
use Rattle.ck_types.specs.declared.key_type.KeyType.{KeyType}
use Rattle.ck_types.specs.declared.key_type.KeyType.TheVariants as key_type

-- What a number stands for: the one value with that number, or none where no value has it.
abbrev pub IsInverse : {A : Type 0} → (A → ℕ) → ℕ → Option A → Type 0
IsInverse number n (Some v) = number v ≡ n
IsInverse number n None = (v : _) → number v ≢ n

-- the first of some values with a number
abbrev pub first_with : {A : Type 0} → (A → ℕ) → List A → ℕ → Option A
first_with number [] n = None
first_with number (v ∷ vs) n = if number v == n then Some v else first_with number vs n

-- Return codes (PKCS #11 v3.1, 5.1)
abbrev pub rv_number : Rv → ℕ
rv_number rv.Ok = 0x0
rv_number rv.HostMemory = 0x2
rv_number rv.SlotIdInvalid = 0x3
rv_number rv.FunctionFailed = 0x6
rv_number rv.ArgumentsBad = 0x7
rv_number rv.AttributeReadOnly = 0x10
rv_number rv.AttributeSensitive = 0x11
rv_number rv.AttributeTypeInvalid = 0x12
rv_number rv.AttributeValueInvalid = 0x13
rv_number rv.ActionProhibited = 0x1b
rv_number rv.DataLenRange = 0x21
rv_number rv.DeviceError = 0x30
rv_number rv.DeviceMemory = 0x31
rv_number rv.EncryptedDataInvalid = 0x40
rv_number rv.EncryptedDataLenRange = 0x41
rv_number rv.FunctionNotSupported = 0x54
rv_number rv.KeyHandleInvalid = 0x60
rv_number rv.KeySizeRange = 0x62
rv_number rv.KeyTypeInconsistent = 0x63
rv_number rv.KeyFunctionNotPermitted = 0x68
rv_number rv.KeyNotWrappable = 0x69
rv_number rv.KeyUnextractable = 0x6a
rv_number rv.MechanismInvalid = 0x70
rv_number rv.MechanismParamInvalid = 0x71
rv_number rv.ObjectHandleInvalid = 0x82
rv_number rv.OperationActive = 0x90
rv_number rv.OperationNotInitialized = 0x91
rv_number rv.PinIncorrect = 0xa0
rv_number rv.PinLenRange = 0xa2
rv_number rv.PinLocked = 0xa4
rv_number rv.SessionCount = 0xb1
rv_number rv.SessionHandleInvalid = 0xb3
rv_number rv.SessionParallelNotSupported = 0xb4
rv_number rv.SessionReadOnly = 0xb5
rv_number rv.SessionExists = 0xb6
rv_number rv.SessionReadOnlyExists = 0xb7
rv_number rv.SessionReadWriteSoExists = 0xb8
rv_number rv.SignatureInvalid = 0xc0
rv_number rv.SignatureLenRange = 0xc1
rv_number rv.TemplateIncomplete = 0xd0
rv_number rv.TemplateInconsistent = 0xd1
rv_number rv.UnwrappingKeyHandleInvalid = 0xf0
rv_number rv.UnwrappingKeyTypeInconsistent = 0xf2
rv_number rv.UserAlreadyLoggedIn = 0x100
rv_number rv.UserNotLoggedIn = 0x101
rv_number rv.UserPinNotInitialized = 0x102
rv_number rv.UserTypeInvalid = 0x103
rv_number rv.UserAnotherAlreadyLoggedIn = 0x104
rv_number rv.WrappedKeyInvalid = 0x110
rv_number rv.WrappedKeyLenRange = 0x112
rv_number rv.WrappingKeyHandleInvalid = 0x113
rv_number rv.WrappingKeyTypeInconsistent = 0x115
rv_number rv.BufferTooSmall = 0x150

abbrev pub rv_all : List Rv
rv_all =
    rv.Ok ∷ rv.HostMemory ∷ rv.SlotIdInvalid ∷ rv.FunctionFailed ∷ rv.ArgumentsBad ∷ rv.AttributeReadOnly ∷
    rv.AttributeSensitive ∷ rv.AttributeTypeInvalid ∷ rv.AttributeValueInvalid ∷ rv.ActionProhibited ∷
    rv.DataLenRange ∷ rv.DeviceError ∷ rv.DeviceMemory ∷ rv.EncryptedDataInvalid ∷ rv.EncryptedDataLenRange ∷
    rv.FunctionNotSupported ∷ rv.KeyHandleInvalid ∷ rv.KeySizeRange ∷ rv.KeyTypeInconsistent ∷
    rv.KeyFunctionNotPermitted ∷ rv.KeyNotWrappable ∷ rv.KeyUnextractable ∷ rv.MechanismInvalid ∷
    rv.MechanismParamInvalid ∷ rv.ObjectHandleInvalid ∷ rv.OperationActive ∷ rv.OperationNotInitialized ∷
    rv.PinIncorrect ∷ rv.PinLenRange ∷ rv.PinLocked ∷ rv.SessionCount ∷ rv.SessionHandleInvalid ∷
    rv.SessionParallelNotSupported ∷ rv.SessionReadOnly ∷ rv.SessionExists ∷ rv.SessionReadOnlyExists ∷
    rv.SessionReadWriteSoExists ∷ rv.SignatureInvalid ∷ rv.SignatureLenRange ∷ rv.TemplateIncomplete ∷
    rv.TemplateInconsistent ∷ rv.UnwrappingKeyHandleInvalid ∷ rv.UnwrappingKeyTypeInconsistent ∷
    rv.UserAlreadyLoggedIn ∷ rv.UserNotLoggedIn ∷ rv.UserPinNotInitialized ∷ rv.UserTypeInvalid ∷
    rv.UserAnotherAlreadyLoggedIn ∷ rv.WrappedKeyInvalid ∷ rv.WrappedKeyLenRange ∷
    rv.WrappingKeyHandleInvalid ∷ rv.WrappingKeyTypeInconsistent ∷ rv.BufferTooSmall ∷ []

-- what a number stands for
unfoldable pub rv_at : ℕ → Option Rv
rv_at n = first_with rv_number rv_all n

-- Attribute types (PKCS #11 v3.1, 3.4)
abbrev pub attr_type_number : AttrType → ℕ
attr_type_number attr_type.Class = 0x0
attr_type_number attr_type.Token = 0x1
attr_type_number attr_type.Private = 0x2
attr_type_number attr_type.Label = 0x3
attr_type_number attr_type.UniqueId = 0x4
attr_type_number attr_type.Application = 0x10
attr_type_number attr_type.Value = 0x11
attr_type_number attr_type.Trusted = 0x86
attr_type_number attr_type.KeyType = 0x100
attr_type_number attr_type.Id = 0x102
attr_type_number attr_type.Sensitive = 0x103
attr_type_number attr_type.Encrypt = 0x104
attr_type_number attr_type.Decrypt = 0x105
attr_type_number attr_type.Wrap = 0x106
attr_type_number attr_type.Unwrap = 0x107
attr_type_number attr_type.Sign = 0x108
attr_type_number attr_type.Verify = 0x10a
attr_type_number attr_type.ValueLen = 0x161
attr_type_number attr_type.Extractable = 0x162
attr_type_number attr_type.Local = 0x163
attr_type_number attr_type.NeverExtractable = 0x164
attr_type_number attr_type.AlwaysSensitive = 0x165
attr_type_number attr_type.KeyGenMechanism = 0x166
attr_type_number attr_type.Modifiable = 0x170
attr_type_number attr_type.Copyable = 0x171
attr_type_number attr_type.Destroyable = 0x172
attr_type_number attr_type.WrapWithTrusted = 0x210

-- Mechanism types (PKCS #11 v3.1, 3.5)
abbrev pub mech_type_number : MechType → ℕ
mech_type_number mech_type.Sha256Hmac = 0x251
mech_type_number mech_type.Sha224Hmac = 0x256
mech_type_number mech_type.Sha384Hmac = 0x261
mech_type_number mech_type.Sha512Hmac = 0x271
mech_type_number mech_type.GenericSecretKeyGen = 0x350
mech_type_number mech_type.AesKeyGen = 0x1080
mech_type_number mech_type.AesEcb = 0x1081
mech_type_number mech_type.AesCbc = 0x1082
mech_type_number mech_type.AesCbcPad = 0x1085
mech_type_number mech_type.AesCtr = 0x1086
mech_type_number mech_type.AesCmac = 0x108a
mech_type_number mech_type.AesKeyWrap = 0x2109

-- User types (PKCS #11 v3.1, 3.3)
abbrev pub user_type_number : UserType → ℕ
user_type_number user_type.So = 0
user_type_number user_type.User = 1

-- Session states (PKCS #11 v3.1, 3.3)
abbrev pub session_state_number : SessionState → ℕ
session_state_number session_state.RoPublic = 0
session_state_number session_state.RoUser = 1
session_state_number session_state.RwPublic = 2
session_state_number session_state.RwUser = 3
session_state_number session_state.RwSo = 4

abbrev pub session_state_all : List SessionState
session_state_all =
    session_state.RoPublic ∷ session_state.RoUser ∷ session_state.RwPublic ∷ session_state.RwUser ∷
    session_state.RwSo ∷ []

-- what a number stands for
unfoldable pub session_state_at : ℕ → Option SessionState
session_state_at n = first_with session_state_number session_state_all n

-- Object classes (PKCS #11 v3.1, 3.4)
abbrev pub object_class_number : ObjectClass → ℕ
object_class_number object_class.Data = 0x0
object_class_number object_class.SecretKey = 0x4

-- Key types (PKCS #11 v3.1, 3.4)
abbrev pub key_type_number : KeyType → ℕ
key_type_number key_type.GenericSecret = 0x10
key_type_number key_type.Aes = 0x1f
