-- The object that a template makes (PKCS #11 v3.1, 4.1, 4.4, 4.7 and 4.10): each attribute of its class,
-- as the template gives it, else as the original has it, else by default or by the token.
use Rattle.std.specs.Prelude.{◌≡◌, ℕ, Bool, true, false, ◌&&◌, ◌==◌, nat_le, not, List, [], ◌∷◌, length, take, drop, map, Option, Some, None, Result, Ok, Err, unwrap_or, if◌then◌else◌}
use Rattle.std.specs.Int.{w64, to_be_bytes}
use Rattle.ck_types.specs.declared.entry.Entry.{Entry}
use Rattle.ck_types.specs.declared.attr_type.AttrType.{AttrType}
use Rattle.ck_types.specs.declared.attr_type.AttrType.TheVariants as attr
use Rattle.ck_types.specs.declared.object_class.ObjectClass.{ObjectClass}
use Rattle.ck_types.specs.declared.object_class.ObjectClass.TheVariants.{Data, SecretKey}
use Rattle.ck_types.specs.declared.key_type.KeyType.{KeyType}
use Rattle.ck_types.specs.declared.key_type.KeyType.TheVariants.{GenericSecret}
use Rattle.ck_types.specs.declared.rv.Rv.{Rv}
use Rattle.ck_types.specs.Numbers.{attr_type_number, key_type_number, mech_type_number, object_class_number}
use Rattle.hex.specs.Hex.{encode_lower}
use Rattle.attrs.specs.declared.table.AttributeRow.{AttributeRow}
use Rattle.attrs.specs.declared.table.DefaultValue.{DefaultValue}
use Rattle.attrs.specs.declared.table.DefaultValue.TheVariants.{ByToken, False, True, TrueForKey, TrueUnwrapped, Empty}
use Rattle.attrs.specs.Table.{row_number, rows_of}
use Rattle.attrs.specs.Objects.{attribute, attribute_of, is_true, number_of, class_of}
use Rattle.templates.specs.declared.making.Making.{Making}
use Rattle.templates.specs.declared.making.Making.TheVariants as making
use Rattle.templates.specs.declared.fault.MakeFault.{MakeFault}
use Rattle.templates.specs.declared.fault.MakeFault.TheVariants.{Refused, Memory}
use Rattle.ck_mechanisms.specs.Table.{mech_key_type as key_type_for}

abbrev pub truth : Bool → List ℕ
truth true = 1 ∷ []
truth false = 0 ∷ []

abbrev pub number_bytes : ℕ → List ℕ
number_bytes n = to_be_bytes w64 n

abbrev pub is_generate : Making → Bool
is_generate making.Create = false
is_generate (making.Generate mechanism) = true
is_generate (making.Unwrap len) = false
is_generate making.Copy = false
is_generate making.Set = false

abbrev pub is_unwrap : Making → Bool
is_unwrap making.Create = false
is_unwrap (making.Generate mechanism) = false
is_unwrap (making.Unwrap len) = true
is_unwrap making.Copy = false
is_unwrap making.Set = false

abbrev pub is_key_class : ObjectClass → Bool
is_key_class Data = false
is_key_class SecretKey = true

-- the mechanism that generated a key, or CK_UNAVAILABLE_INFORMATION
abbrev pub generator : Making → ℕ
generator making.Create = 0xffff_ffff_ffff_ffff
generator (making.Generate mechanism) = mech_type_number mechanism
generator (making.Unwrap len) = 0xffff_ffff_ffff_ffff
generator making.Copy = 0xffff_ffff_ffff_ffff
generator making.Set = 0xffff_ffff_ffff_ffff

-- the key type where the template needn't give one
abbrev pub type_by_making : Making → KeyType
type_by_making making.Create = GenericSecret
type_by_making (making.Generate mechanism) = key_type_for mechanism
type_by_making (making.Unwrap len) = GenericSecret
type_by_making making.Copy = GenericSecret
type_by_making making.Set = GenericSecret

-- whether a generated key is sensitive, and whether it is extractable
abbrev pub is_sensitive : List Entry → Bool
is_sensitive template = is_true (Some (unwrap_or (attribute_of template attr.Sensitive) (truth true)))

abbrev pub is_extractable : List Entry → Bool
is_extractable template = is_true (Some (unwrap_or (attribute_of template attr.Extractable) (truth false)))

-- what the token finds: the value of a key is handed in
abbrev pub by_token : Making → List Entry → List ℕ → AttrType → List ℕ
by_token c template value attr.Class = number_bytes (object_class_number SecretKey)
by_token c template value attr.KeyType = number_bytes (key_type_number (type_by_making c))
by_token c template value attr.Value = value
by_token c template value attr.ValueLen = number_bytes (length value)
by_token c template value attr.Local = truth (is_generate c)
by_token c template value attr.NeverExtractable = truth (is_generate c && not (is_extractable template))
by_token c template value attr.AlwaysSensitive = truth (is_generate c && is_sensitive template)
by_token c template value attr.KeyGenMechanism = number_bytes (generator c)
by_token c template value _ = []

abbrev pub by_default : DefaultValue → Making → ObjectClass → List Entry → List ℕ → AttrType → List ℕ
by_default ByToken c class template value t = by_token c template value t
by_default False c class template value t = truth false
by_default True c class template value t = truth true
by_default TrueForKey c class template value t = truth (is_key_class class)
by_default TrueUnwrapped c class template value t = truth (is_unwrap c)
by_default Empty c class template value t = []

-- C_CopyObject and C_SetAttributeValue make an object of another one
abbrev pub alters : Making → Bool
alters making.Create = false
alters (making.Generate mechanism) = false
alters (making.Unwrap len) = false
alters making.Copy = true
alters making.Set = true

-- what is not given: as the original has it, or in a new object the default
abbrev pub not_given : Making → ObjectClass → List Entry → List Entry → List ℕ → AttributeRow → List ℕ
not_given c class original template value r =
    if alters c then unwrap_or (attribute original (row_number r)) [] else by_default r.default c class template value r.attribute

-- each call but C_SetAttributeValue gives a new CKA_UNIQUE_ID
abbrev pub renews : Making → Bool
renews making.Create = true
renews (making.Generate mechanism) = true
renews (making.Unwrap len) = true
renews making.Copy = true
renews making.Set = false

abbrev pub is_renewed : Making → AttributeRow → Bool
is_renewed c r = renews c && (row_number r == attr_type_number attr.UniqueId)

-- the value of an attribute: CKA_UNIQUE_ID is 32 hexadecimal digits of 16 random bytes
abbrev pub made_value : Making → ObjectClass → List Entry → List Entry → List ℕ → List ℕ → AttributeRow → List ℕ
made_value c class original template random value r =
    if is_renewed c r then encode_lower (take 16 random)
    else unwrap_or (attribute template (row_number r)) (not_given c class original template value r)

abbrev pub made_entry : Making → ObjectClass → List Entry → List Entry → List ℕ → List ℕ → AttributeRow → Entry
made_entry c class original template random value r =
    record { attr_type = row_number r; value = made_value c class original template random value r }

abbrev pub made_entries : Making → ObjectClass → List Entry → List Entry → List ℕ → List ℕ → List Entry
made_entries c class original template random value = map (made_entry c class original template random value) (rows_of class)

abbrev pub made_class : Making → List Entry → List Entry → Option ObjectClass
made_class making.Create original template = class_of template
made_class (making.Generate m) original template = Some SecretKey
made_class (making.Unwrap n) original template = Some SecretKey
made_class making.Copy original template = class_of original
made_class making.Set original template = class_of original

abbrev pub made_of : Option ObjectClass → Making → List Entry → List Entry → List ℕ → List ℕ → List Entry
made_of None c original template random value = []
made_of (Some class) c original template random value = made_entries c class original template random value

abbrev pub object_made : Making → List Entry → List Entry → List ℕ → List ℕ → List Entry
object_made c original template random value = made_of (made_class c original template) c original template random value

-- the value of a created key
abbrev pub given_value : List Entry → List ℕ
given_value template = unwrap_or (attribute_of template attr.Value) []

-- how long a value C_GenerateKey is asked for, where a key may be that long
abbrev pub asked_len : Option ℕ → ℕ
asked_len None = 0
asked_len (Some n) = if nat_le n 512 then n else 0

abbrev pub generated_len : List Entry → ℕ
generated_len template = asked_len (number_of (attribute_of template attr.ValueLen))

-- the random bytes after the first sixteen
abbrev pub generated_value : List Entry → List ℕ → List ℕ
generated_value template random = take (generated_len template) (drop 16 random)

-- the code of the first condition that holds; where none does the object, unless memory for it runs out
abbrev pub Answers : Result (List Entry) MakeFault → Option Rv → List Entry → Type 0
Answers (Ok object) None made = object ≡ made
Answers (Ok object) (Some code) made = ⊥
Answers (Err fault) None made = fault ≡ Memory
Answers (Err fault) (Some code) made = fault ≡ Refused code
