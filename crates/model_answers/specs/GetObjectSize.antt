-- C_GetObjectSize (PKCS #11 v3.1, 5.7.4). The size of an object is the length of its stored form, which reveals nothing of
-- a key that CKA_VALUE_LEN doesn't.
use Rattle.std.specs.Prelude.{ℕ, ◌+◌, List, [], length, if◌then◌else◌}
use Rattle.std.specs.Option.{unwrap_or}
use Rattle.std.specs.List.{sum_by}
use Rattle.ck_types.specs.declared.attr_type.AttrType.TheVariants as attr
use Rattle.ck_calls.specs.declared.function.Function.TheVariants.{GetObjectSize}
use Rattle.ck_calls.specs.declared.reply.Reply.TheVariants.{ObjectSize}
use Rattle.attrs.specs.Masking.{is_secret_key, without}
use Rattle.model_views.specs.Calls.{Entry, attribute_of, class_of, number_of, View, Answer, reads}

-- the length of an object's value: of a key's, by its CKA_VALUE_LEN
abbrev pub value_len : List Entry → ℕ
value_len o = if is_secret_key (class_of o) then unwrap_or (number_of (attribute_of o attr.ValueLen)) 0 else length
    (unwrap_or (attribute_of o attr.Value) [])

-- an attribute with a value of so many bytes: its number and that length, four bytes each, and the value
abbrev pub attribute_size : ℕ → ℕ
attribute_size len = 8 + len

-- three bytes before the attributes, of which CKA_VALUE is one
abbrev pub object_size : List Entry → ℕ
object_size o = 3 + (sum_by (λ e. attribute_size (length e.value)) (without attr.Value o) + attribute_size (value_len o))

abbrev pub get_object_size : View → ℕ → ℕ → Answer
get_object_size v s handle = reads GetObjectSize v s handle (λ o. ObjectSize (object_size o))
