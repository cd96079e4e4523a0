-- What an object is: the list of its attributes by rising number (PKCS #11 v3.1, 4.1, 4.4, 4.5, 4.7, 4.10).
use Rattle.std.specs.Prelude.{◌≡◌, ℕ, Bool, true, false, ◌&&◌, ◌||◌, ◌==◌, nat_lt, nat_le, List, [], ◌∷◌, length, Option, Some, None, slice_index, if◌then◌else◌}
use Rattle.std.specs.Int.{w64, from_be_bytes}
use Rattle.ck_types.specs.declared.entry.Entry.{Entry}
use Rattle.ck_types.specs.declared.attr_type.AttrType.{AttrType}
use Rattle.ck_types.specs.declared.attr_type.AttrType.TheVariants as attr
use Rattle.ck_types.specs.declared.object_class.ObjectClass.{ObjectClass}
use Rattle.ck_types.specs.declared.object_class.ObjectClass.TheVariants.{Data, SecretKey}
use Rattle.ck_types.specs.declared.key_type.KeyType.{KeyType}
use Rattle.ck_types.specs.declared.key_type.KeyType.TheVariants.{GenericSecret, Aes}
use Rattle.ck_types.specs.Numbers.{attr_type_number, object_class_number, key_type_number, first_with}
use Rattle.attrs.specs.declared.table.AttributeRow.{AttributeRow}
use Rattle.attrs.specs.declared.table.Form.{Form}
use Rattle.attrs.specs.declared.table.Form.TheVariants.{Truth, Number, Bytes}
use Rattle.attrs.specs.Table.{row_number, rows_of}

-- The value of an attribute type, in an object or in a template: that of the first entry of the type.
abbrev pub attribute : List Entry → ℕ → Option (List ℕ)
attribute [] n = None
attribute (e ∷ es) n = if e.attr_type == n then Some e.value else attribute es n

abbrev pub attribute_of : List Entry → AttrType → Option (List ℕ)
attribute_of es t = attribute es (attr_type_number t)

-- a truth value that is true
abbrev pub is_true : Option (List ℕ) → Bool
is_true None = false
is_true (Some bytes) = (length bytes == 1) && (slice_index bytes 0 == 1)

abbrev pub flag : List Entry → AttrType → Bool
flag es t = is_true (attribute_of es t)

-- the number that a value of eight bytes is
abbrev pub number_of : Option (List ℕ) → Option ℕ
number_of None = None
number_of (Some bytes) = if length bytes == 8 then Some (from_be_bytes w64 bytes) else None

abbrev pub classes : List ObjectClass
classes = Data ∷ SecretKey ∷ []

unfoldable pub class_at : Option ℕ → Option ObjectClass
class_at None = None
class_at (Some n) = first_with object_class_number classes n

abbrev pub class_of : List Entry → Option ObjectClass
class_of es = class_at (number_of (attribute_of es attr.Class))

abbrev pub key_types : List KeyType
key_types = GenericSecret ∷ Aes ∷ []

unfoldable pub key_type_at : Option ℕ → Option KeyType
key_type_at None = None
key_type_at (Some n) = first_with key_type_number key_types n

abbrev pub key_type_of : List Entry → Option KeyType
key_type_of es = key_type_at (number_of (attribute_of es attr.KeyType))

-- the lengths of a key type's values in bytes (PKCS #11 v3.1, 6.8 and 6.10)
abbrev pub is_key_len : KeyType → ℕ → Bool
is_key_len GenericSecret n = nat_le 1 n && nat_le n 512
is_key_len Aes n = (n == 16) || ((n == 24) || (n == 32))

-- a truth value is one byte 0 or 1, a number has eight bytes, a byte string at most 1,024
abbrev pub has_form : Form → List ℕ → Bool
has_form Truth bytes = (length bytes == 1) && nat_lt (slice_index bytes 0) 2
has_form Number bytes = length bytes == 8
has_form Bytes bytes = nat_le (length bytes) 1024

-- just the attributes of these rows, in this order, each in its form
abbrev pub fits_rows : List AttributeRow → List Entry → Bool
fits_rows [] [] = true
fits_rows [] (e ∷ es) = false
fits_rows (r ∷ rs) [] = false
fits_rows (r ∷ rs) (e ∷ es) = ((e.attr_type == row_number r) && has_form r.form e.value) && fits_rows rs es

-- a value with one of the key type's lengths, and that length as a number
abbrev pub is_key_value : Option KeyType → Option (List ℕ) → Option ℕ → Bool
is_key_value (Some type) (Some value) (Some len) = is_key_len type (length value) && (len == length value)
is_key_value (Some type) (Some value) None = false
is_key_value (Some type) None len = false
is_key_value None value len = false

abbrev pub has_key_value : List Entry → Bool
has_key_value es = is_key_value (key_type_of es) (attribute_of es attr.Value) (number_of (attribute_of es attr.ValueLen))

abbrev pub is_of_class : Option ObjectClass → List Entry → Bool
is_of_class None es = false
is_of_class (Some Data) es = fits_rows (rows_of Data) es
is_of_class (Some SecretKey) es = fits_rows (rows_of SecretKey) es && has_key_value es

abbrev pub is_object : List Entry → Bool
is_object es = is_of_class (class_of es) es

abbrev pub IsObject : List Entry → Type 0
IsObject es = is_object es ≡ true
