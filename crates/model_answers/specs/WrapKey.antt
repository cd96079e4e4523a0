-- C_WrapKey (PKCS #11 v3.1, 5.18; 4.10: CKA_TRUSTED and CKA_WRAP_WITH_TRUSTED): a pending call, and its result.
use Rattle.std.specs.Prelude.{ℕ, ◌+◌, Bool, false, ◌||◌, ◌&&◌, ◌==◌, not, nat_lt, List, [], length, Option, is_none}
use Rattle.std.specs.Option.{unwrap_or}
use Rattle.ck_types.specs.declared.attr_type.AttrType.TheVariants as attr
use Rattle.ck_types.specs.declared.mech_type.MechType.{MechType}
use Rattle.ck_types.specs.declared.rv.Rv.TheVariants.{FunctionFailed}
use Rattle.ck_mechanisms.specs.declared.purpose.Purpose.TheVariants.{Wrapping}
use Rattle.ck_mechanisms.specs.Table.{mechanism_for}
use Rattle.ck_calls.specs.declared.fields.Mechanism.{Mechanism}
use Rattle.ck_calls.specs.declared.function.Function.TheVariants as functions
use Rattle.ck_calls.specs.declared.reply.Output.TheVariants as output
use Rattle.ck_calls.specs.declared.reply.Reply.TheVariants as replied
use Rattle.attrs.specs.Masking.{is_secret_key}
use Rattle.mech.specs.Wrappings.{is_value_length}
use Rattle.precede.specs.declared.condition.Condition.TheVariants.{NoSession, WrongMechanism, WrongParameter, NoWrappingKey, NoKey, WrongWrappingKeyType, KeyNotPermitted, KeyUnextractable, KeyNotWrappable, KeyLength, NoBuffer, SmallBuffer}
use Rattle.model_views.specs.TaskResults.{TaskResult, Output}
use Rattle.model_views.specs.Views.{WrapsKey}
use Rattle.model_views.specs.Calls.{Entry, attribute_of, class_of, key_type_of, Condition, View, Answer, replies, refuses, refuses_by, asks, session_of, object_at, checked_by, flag_at, is_aes}
use Rattle.model_answers.specs.GetObjectSize.{value_len}

-- the mechanism that wraps and unwraps, which has no parameter
abbrev pub wrapping_at : ℕ → Option MechType
wrapping_at number = mechanism_for Wrapping number

-- what a handle names is no key
abbrev pub is_no_key : Option (List Entry) → Bool
is_no_key key = is_none key || not (is_secret_key (class_of (unwrap_or key [])))

-- the length of a key's value, and of its wrapping
abbrev pub key_len : Option (List Entry) → ℕ
key_len key = value_len (unwrap_or key [])

abbrev pub wrapped_len : Option (List Entry) → ℕ
wrapped_len key = key_len key + 8

-- The conditions, by the wrapping key and the key that is wrapped.
abbrev pub wrap_row : View → ℕ → Mechanism → Option (List Entry) → Option (List Entry) → Option ℕ → Condition → Bool
wrap_row v s m wrapping key buffer_len NoSession = is_none (session_of v s)
wrap_row v s m wrapping key buffer_len WrongMechanism = is_none (wrapping_at m.mech_type)
wrap_row v s m wrapping key buffer_len WrongParameter = not (length m.parameter == 0)
wrap_row v s m wrapping key buffer_len NoWrappingKey = is_no_key wrapping
wrap_row v s m wrapping key buffer_len NoKey = is_no_key key
wrap_row v s m wrapping key buffer_len WrongWrappingKeyType = not (is_aes (key_type_of (unwrap_or wrapping [])))
wrap_row v s m wrapping key buffer_len KeyNotPermitted = not (flag_at wrapping attr.Wrap)
wrap_row v s m wrapping key buffer_len KeyUnextractable = not (flag_at key attr.Extractable)
wrap_row v s m wrapping key buffer_len KeyNotWrappable = flag_at key attr.WrapWithTrusted && not (flag_at wrapping attr.Trusted)
wrap_row v s m wrapping key buffer_len KeyLength = not (is_value_length (key_len key))
wrap_row v s m wrapping key buffer_len NoBuffer = is_none buffer_len
wrap_row v s m wrapping key buffer_len SmallBuffer = nat_lt (unwrap_or buffer_len 0) (wrapped_len key)
wrap_row v s m wrapping key buffer_len _ = false

-- where the output buffer is too short, the wrapped key's length is returned
abbrev pub wrap_says : View → ℕ → Condition → Answer
wrap_says v length NoBuffer = replies v (replied.Output (output.Length length))
wrap_says v length SmallBuffer = replies v (replied.BufferTooSmall length)
wrap_says v length row = refuses_by v row

abbrev pub wraps : View → ℕ → Mechanism → Option (List Entry) → Option (List Entry) → Option ℕ → Answer
wraps v s m wrapping key buffer_len =
    checked_by functions.WrapKey (wrap_row v s m wrapping key buffer_len) (wrap_says v (wrapped_len key))
    (asks v functions.WrapKey s (WrapsKey (attribute_of (unwrap_or wrapping []) attr.Value)
    (attribute_of (unwrap_or key []) attr.Value)))

abbrev pub wrap_key : View → ℕ → Mechanism → ℕ → ℕ → Option ℕ → Answer
wrap_key v s m wrapping key buffer_len = wraps v s m (object_at v wrapping) (object_at v key) buffer_len

-- the wrapped key is returned
abbrev pub wrapped_result : View → TaskResult → Answer
wrapped_result v (Output bytes) = replies v (replied.Output (output.Data bytes))
wrapped_result v _ = refuses v FunctionFailed
