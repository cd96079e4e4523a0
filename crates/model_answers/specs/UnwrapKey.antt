-- C_UnwrapKey (PKCS #11 v3.1, 5.18): a pending call, and its result, which makes the key.
use Rattle.std.specs.Prelude.{ℕ, ◌-◌, ◌^◌, Bool, true, false, ◌&&◌, ◌==◌, ◌%◌, not, nat_le, nat_lt, List, [], length, replicate, if◌then◌else◌, Option, Some, is_some, is_none}
use Rattle.std.specs.Option.{unwrap_or}
use Rattle.ck_types.specs.declared.attr_type.AttrType.TheVariants as attr
use Rattle.ck_types.specs.declared.rv.Rv.TheVariants.{FunctionFailed, WrappedKeyInvalid, WrappedKeyLenRange}
use Rattle.ck_calls.specs.declared.fields.Mechanism.{Mechanism}
use Rattle.ck_calls.specs.declared.function.Function.TheVariants as functions
use Rattle.mech.specs.Works.{key_made}
use Rattle.templates.specs.declared.making.Making.TheVariants.{Unwrap}
use Rattle.templates.specs.Faults.{template_fault}
use Rattle.precede.specs.declared.condition.Condition.TheVariants.{NoSession, WrongMechanism, WrongParameter, NoUnwrappingKey, WrongUnwrappingKeyType, KeyNotPermitted, WrappedLength, TemplateRefused, WrappedLengthOfType}
use Rattle.model_views.specs.TaskResults.{TaskResult, Unwrapped, BadWrapping}
use Rattle.model_views.specs.Views.{UnwrapsKey}
use Rattle.model_views.specs.Calls.{Rv, Entry, SessionState, attribute_of, key_type_of, Condition, View, Answer, refuses, refuses_by, asks, session_of, object_at, checked_by, state_in, flag_at, is_aes, refuses_template}
use Rattle.model_answers.specs.CreateObject.{makes_row, adds_where}
use Rattle.model_answers.specs.WrapKey.{wrapping_at, is_no_key}

-- so many bytes are the wrapping of a value that a key can have
abbrev pub is_wrapped_length : ℕ → Bool
is_wrapped_length n = nat_le 24 n && (nat_le n 520 && (n % 8 == 0))

-- the template is refused since the type of the key hasn't values of this length
abbrev pub is_length_fault : Option Rv → Bool
is_length_fault (Some WrappedKeyLenRange) = true
is_length_fault _ = false

-- the key before its value is known
abbrev pub key_ahead : List Entry → List ℕ → ℕ → List Entry
key_ahead template random len = key_made template random (replicate len 0)

-- the conditions of its template, by why it is refused, and by the key that is to be made
abbrev pub template_row : View → SessionState → Option Rv → List Entry → Condition → Bool
template_row v state fault o TemplateRefused = is_some fault && not (is_length_fault fault)
template_row v state fault o WrappedLengthOfType = is_length_fault fault
template_row v state fault o row = makes_row v state fault o row

-- The conditions, by the unwrapping key, by why the template is refused, and by the key that is to be made.
abbrev pub unwrap_row : View → ℕ → Mechanism → Option (List Entry) → List ℕ → Option Rv → List Entry → Condition → Bool
unwrap_row v s m key wrapped fault o NoSession = is_none (session_of v s)
unwrap_row v s m key wrapped fault o WrongMechanism = is_none (wrapping_at m.mech_type)
unwrap_row v s m key wrapped fault o WrongParameter = not (length m.parameter == 0)
unwrap_row v s m key wrapped fault o NoUnwrappingKey = is_no_key key
unwrap_row v s m key wrapped fault o WrongUnwrappingKeyType = not (is_aes (key_type_of (unwrap_or key [])))
unwrap_row v s m key wrapped fault o KeyNotPermitted = not (flag_at key attr.Unwrap)
unwrap_row v s m key wrapped fault o WrappedLength = not (is_wrapped_length (length wrapped))
unwrap_row v s m key wrapped fault o row = template_row v (state_in v s) fault o row

abbrev pub unwrap_says : View → Option Rv → Condition → Answer
unwrap_says v fault TemplateRefused = refuses_template v fault
unwrap_says v fault row = refuses_by v row

abbrev pub unwraps : View → ℕ → Mechanism → Option (List Entry) → List ℕ → List Entry → List ℕ → SessionState → Option Rv → Answer
unwraps v s m key wrapped template random state fault =
    checked_by functions.UnwrapKey (unwrap_row v s m key wrapped fault (key_ahead template random (length wrapped - 8)))
    (unwrap_says v fault) (asks v functions.UnwrapKey s
    (UnwrapsKey (attribute_of (unwrap_or key []) attr.Value) wrapped state template random))

abbrev pub unwrap_key : View → ℕ → Mechanism → ℕ → List ℕ → List Entry → List ℕ → Answer
unwrap_key v s m key wrapped template random =
    unwraps v s m (object_at v key) wrapped template random (state_in v s)
    (template_fault (Unwrap (length wrapped - 8)) (state_in v s) [] template)

-- the session is there, and a handle is left
abbrev pub may_add : View → ℕ → Bool
may_add v s = is_some (session_of v s) && nat_lt v.next_handle (2 ^ 63)

-- The key is added as a new object is, by the last conditions of the call's table once more.
abbrev pub unwrapped_result : View → ℕ → TaskResult → Answer
unwrapped_result v s (Unwrapped o) = if may_add v s then adds_where v s (state_in v s) o else refuses v FunctionFailed
unwrapped_result v s BadWrapping = refuses v WrappedKeyInvalid
unwrapped_result v s _ = refuses v FunctionFailed
