-- What others may see of an object: all but the value of a sensitive or unextractable key
-- (PKCS #11 v3.1, 4.7 and 4.10; a key's length is no secret).
use Rattle.std.specs.Prelude.{ℕ, Bool, true, false, ◌&&◌, ◌||◌, ◌==◌, not, List, Option, Some, None, filter, if◌then◌else◌}
use Rattle.ck_types.specs.declared.entry.Entry.{Entry}
use Rattle.ck_types.specs.declared.attr_type.AttrType.{AttrType}
use Rattle.ck_types.specs.declared.attr_type.AttrType.TheVariants as attr
use Rattle.ck_types.specs.declared.object_class.ObjectClass.{ObjectClass}
use Rattle.ck_types.specs.declared.object_class.ObjectClass.TheVariants.{Data, SecretKey}
use Rattle.ck_types.specs.Numbers.{attr_type_number}
use Rattle.attrs.specs.Objects.{flag, class_of}

abbrev pub is_secret_key : Option ObjectClass → Bool
is_secret_key None = false
is_secret_key (Some Data) = false
is_secret_key (Some SecretKey) = true

-- a key that is sensitive, or that isn't extractable
abbrev pub is_masked : List Entry → Bool
is_masked es = is_secret_key (class_of es) && (flag es attr.Sensitive || not (flag es attr.Extractable))

abbrev pub without : AttrType → List Entry → List Entry
without t es = filter (λ e. not (e.attr_type == attr_type_number t)) es

-- what may be seen: CKA_VALUE_LEN stays
abbrev pub mask : List Entry → List Entry
mask es = if is_masked es then without attr.Value es else es

-- whether an attribute of the object may be seen, if it has it
abbrev pub reveals : List Entry → ℕ → Bool
reveals es n = not (is_masked es && (n == attr_type_number attr.Value))
