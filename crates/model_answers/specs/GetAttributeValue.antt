-- C_GetAttributeValue (PKCS #11 v3.1, 5.7.5): each attribute that is asked for is returned, whatever becomes of the
-- others.
use Rattle.std.specs.Prelude.{ℕ, ◌-◌, ◌^◌, Bool, ◌==◌, nat_lt, List, map, length, if◌then◌else◌, Option, Some, None}
use Rattle.std.specs.List.{list_any}
use Rattle.ck_types.specs.declared.rv.Rv.TheVariants.{AttributeSensitive, AttributeTypeInvalid, BufferTooSmall}
use Rattle.ck_types.specs.Numbers.{rv_number}
use Rattle.ck_calls.specs.declared.fields.AttributeQuery.{AttributeQuery}
use Rattle.ck_calls.specs.declared.function.Function.TheVariants.{GetAttributeValue}
use Rattle.ck_calls.specs.declared.reply.AttributeValue.{AttributeValue}
use Rattle.ck_calls.specs.declared.reply.Reply.TheVariants.{AttributeValues}
use Rattle.attrs.specs.Masking.{reveals}
use Rattle.model_views.specs.Calls.{Entry, Rv, Ok, Reply, attribute, View, Answer, reads}

-- What is returned of an attribute, with its code. Where it is unavailable, its length is
-- CK_UNAVAILABLE_INFORMATION.
abbrev pub unavailable : Rv → Rv × AttributeValue
unavailable code = (code, record { len = 2 ^ 64 - 1; value = None })

-- a value: where no buffer was given, its length alone
abbrev pub value_told : List ℕ → Option ℕ → Rv × AttributeValue
value_told bytes None = (Ok, record { len = length bytes; value = None })
value_told bytes (Some buffer_len) =
    if nat_lt buffer_len (length bytes) then unavailable BufferTooSmall else (Ok, record { len = length bytes; value = Some bytes })

-- a value that the object may not have
abbrev pub if_there : Option (List ℕ) → Option ℕ → Rv × AttributeValue
if_there None buffer_len = unavailable AttributeTypeInvalid
if_there (Some bytes) buffer_len = value_told bytes buffer_len

abbrev pub attribute_told : List Entry → AttributeQuery → Rv × AttributeValue
attribute_told o q = if reveals o q.attr_type then if_there (attribute o q.attr_type) q.buffer_len else unavailable AttributeSensitive

-- the code of the whole
abbrev pub has_code : Rv → List Rv → Bool
has_code code codes = list_any (λ c. rv_number c == rv_number code) codes

abbrev pub code_of_all : List Rv → Rv
code_of_all codes =
    if has_code AttributeSensitive codes then AttributeSensitive
    else (if has_code AttributeTypeInvalid codes then AttributeTypeInvalid else
    (if has_code BufferTooSmall codes then BufferTooSmall else Ok))

abbrev pub attributes_told : List Entry → List AttributeQuery → Reply
attributes_told o query = AttributeValues (code_of_all (map (λ q. (attribute_told o q).0) query)) (map (λ q. (attribute_told o q).1) query)

abbrev pub get_attribute_value : View → ℕ → ℕ → List AttributeQuery → Answer
get_attribute_value v s handle query = reads GetAttributeValue v s handle (λ o. attributes_told o query)
