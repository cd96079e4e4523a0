-- C_EncryptInit, C_DecryptInit, C_SignInit and C_VerifyInit (PKCS #11 v3.1, 5.8, 5.10, 5.13 and 5.15).
use Rattle.std.specs.Prelude.{ℕ, Bool, false, ◌||◌, not, List, [], Option, Some, None, is_some, is_none}
use Rattle.std.specs.Option.{unwrap_or}
use Rattle.ck_types.specs.declared.attr_type.AttrType.{AttrType}
use Rattle.ck_types.specs.declared.attr_type.AttrType.TheVariants as attr
use Rattle.ck_types.specs.declared.mech_type.MechType.{MechType}
use Rattle.ck_types.specs.declared.mech_type.MechType.TheVariants.{AesEcb}
use Rattle.ck_mechanisms.specs.declared.purpose.Purpose.{Purpose}
use Rattle.ck_mechanisms.specs.declared.purpose.Purpose.TheVariants as purpose
use Rattle.ck_mechanisms.specs.Table.{mechanism_for, mech_key_type as key_type_for}
use Rattle.ck_calls.specs.declared.fields.Mechanism.{Mechanism}
use Rattle.ck_calls.specs.declared.function.Function.{Function}
use Rattle.ck_calls.specs.declared.function.Function.TheVariants as functions
use Rattle.aes_modes.specs.declared.direction.Direction.TheVariants.{Encrypt, Decrypt}
use Rattle.streams.specs.declared.mechanism.Mechanism.TheVariants.{Ecb}
use Rattle.macs.specs.declared.mechanism.Mechanism.TheVariants.{AesCmac}
use Rattle.attrs.specs.Masking.{is_secret_key}
use Rattle.precede.specs.declared.condition.Condition.TheVariants.{NoSession, NoMechanism, OperationActive, WrongMechanism, WrongParameter, NoKey, WrongKeyType, KeyNotPermitted}
use Rattle.sessions.specs.declared.Session.{Session}
use Rattle.ops.specs.declared.place.Kind.{Kind}
use Rattle.ops.specs.declared.place.Kind.TheVariants.{Cipher, Mac}
use Rattle.ops.specs.declared.place.MacPlace.TheVariants.{Sign, Verify}
use Rattle.ops.specs.Operations.{Operations, operation_in, mac_in}
use Rattle.model_views.specs.Calls.{Entry, class_of, key_type_of, Condition, View, Answer, refuses_by, session_of, object_at, checked_by, flag_at, is_of_type}
use Rattle.model_answers.specs.CipherInit.{place_for, with_parameter, cipher_begins, cipher_ends}
use Rattle.model_answers.specs.MacInit.{mac_mechanism_with, mac_begins, mac_ends}

-- ---- what differs

abbrev pub init_function : Kind → Function
init_function (Cipher Encrypt) = functions.EncryptInit
init_function (Cipher Decrypt) = functions.DecryptInit
init_function (Mac Sign) = functions.SignInit
init_function (Mac Verify) = functions.VerifyInit

-- the attribute by which a key permits it
abbrev pub permission : Kind → AttrType
permission (Cipher Encrypt) = attr.Encrypt
permission (Cipher Decrypt) = attr.Decrypt
permission (Mac Sign) = attr.Sign
permission (Mac Verify) = attr.Verify

-- what its mechanism is for
abbrev pub purpose_for : Kind → Purpose
purpose_for (Cipher d) = purpose.Cipher
purpose_for (Mac p) = purpose.Mac

-- a parameter is one of the mechanism
abbrev pub has_parameter : Kind → MechType → List ℕ → Bool
has_parameter (Cipher d) mechanism parameter = is_some (with_parameter mechanism parameter)
has_parameter (Mac p) mechanism parameter = is_some (mac_mechanism_with mechanism parameter)

-- such an operation is in progress
abbrev pub is_in_progress : Kind → Option (Session Operations) → Bool
is_in_progress (Cipher d) s = is_some (operation_in s (place_for d))
is_in_progress (Mac p) s = is_some (mac_in s p)

-- it ends with a code, if there is one
abbrev pub operation_ends : Kind → View → ℕ → Condition → Answer
operation_ends (Cipher d) v s row = cipher_ends v s (place_for d) row
operation_ends (Mac p) v s row = mac_ends v s p row

-- it begins, with a copy of the key
abbrev pub operation_begins : Kind → View → ℕ → MechType → List ℕ → List Entry → Answer
operation_begins (Cipher d) v s mechanism parameter key = cipher_begins d v s (unwrap_or (with_parameter mechanism parameter) Ecb) key
operation_begins (Mac p) v s mechanism parameter key = mac_begins p v s (unwrap_or (mac_mechanism_with mechanism parameter) AesCmac) key

-- ---- the call

-- a mechanism's number and parameter, and which it is
abbrev pub number_in : Option Mechanism → ℕ
number_in None = 0
number_in (Some m) = m.mech_type

abbrev pub parameter_in : Option Mechanism → List ℕ
parameter_in None = []
parameter_in (Some m) = m.parameter

abbrev pub type_in : Kind → Option Mechanism → Option MechType
type_in kind m = mechanism_for (purpose_for kind) (number_in m)

abbrev pub init_row : Kind → View → ℕ → Option Mechanism → Option (List Entry) → Condition → Bool
init_row kind v s m key NoSession = is_none (session_of v s)
init_row kind v s m key NoMechanism = is_none m
init_row kind v s m key OperationActive = is_in_progress kind (session_of v s)
init_row kind v s m key WrongMechanism = is_none (type_in kind m)
init_row kind v s m key WrongParameter = not (has_parameter kind (unwrap_or (type_in kind m) AesEcb) (parameter_in m))
init_row kind v s m key NoKey = is_none key || not (is_secret_key (class_of (unwrap_or key [])))
init_row kind v s m key WrongKeyType =
    not (is_of_type (key_type_for (unwrap_or (type_in kind m) AesEcb)) (key_type_of (unwrap_or key [])))
init_row kind v s m key KeyNotPermitted = not (flag_at key (permission kind))
init_row kind v s m key _ = false

-- without a mechanism the operation of the session ends
abbrev pub init_says : Kind → View → ℕ → Condition → Answer
init_says kind v s NoMechanism = operation_ends kind v s NoMechanism
init_says kind v s row = refuses_by v row

abbrev pub begins_under : Kind → View → ℕ → Option Mechanism → Option (List Entry) → Answer
begins_under kind v s m key = checked_by (init_function kind) (init_row kind v s m key) (init_says kind v s)
    (operation_begins kind v s (unwrap_or (type_in kind m) AesEcb) (parameter_in m) (unwrap_or key []))

abbrev pub operation_init : Kind → View → ℕ → Option Mechanism → ℕ → Answer
operation_init kind v s m key = begins_under kind v s m (object_at v key)
