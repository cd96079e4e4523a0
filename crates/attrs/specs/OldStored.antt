-- The stored form of an object in format 1, which older stores have: a byte 1, and then as in format 2, but without
-- CKA_TRUSTED and CKA_WRAP_WITH_TRUSTED, which are false.
use Rattle.std.specs.Prelude.{ℕ, ◌+◌, Bool, ◌||◌, ◌==◌, nat_lt, List, [], ◌∷◌, Option, Some, None, if◌then◌else◌}
use Rattle.ck_types.specs.declared.entry.Entry.{Entry}
use Rattle.ck_types.specs.declared.attr_type.AttrType.{AttrType}
use Rattle.ck_types.specs.declared.attr_type.AttrType.TheVariants as attr
use Rattle.ck_types.specs.declared.object_class.ObjectClass.{ObjectClass}
use Rattle.ck_types.specs.declared.object_class.ObjectClass.TheVariants.{Data, SecretKey}
use Rattle.ck_types.specs.Numbers.{attr_type_number}
use Rattle.ck_types.specs.Format.{whole}
use Rattle.attrs.specs.Masking.{without}
use Rattle.attrs.specs.Objects.{class_of, flag}
use Rattle.attrs.specs.Stored.{stored_entries, if_object}

-- what format 1 stores of an object in which both are false
abbrev pub old_form : List Entry → List ℕ
old_form o = 1 ∷ stored_entries.encode (without attr.Trusted (without attr.WrapWithTrusted o))

abbrev pub has_new_flags : List Entry → Bool
has_new_flags o = flag o attr.Trusted || flag o attr.WrapWithTrusted

-- an attribute is put where it stands by number
abbrev pub placed : Entry → List Entry → List Entry
placed e [] = e ∷ []
placed e (x ∷ xs) = if nat_lt e.attr_type x.attr_type then e ∷ x ∷ xs else x ∷ placed e xs

-- and so many stand before it
abbrev pub index_in : List Entry → ℕ → ℕ
index_in [] n = 0
index_in (x ∷ xs) n = if nat_lt n x.attr_type then 0 else index_in xs n + 1

abbrev pub false_of : AttrType → Entry
false_of t = record { attr_type = attr_type_number t; value = 0 ∷ [] }

-- a key gets both attributes
abbrev pub renewed_of : Option ObjectClass → List Entry → List Entry
renewed_of None es = es
renewed_of (Some Data) es = es
renewed_of (Some SecretKey) es = placed (false_of attr.WrapWithTrusted) (placed (false_of attr.Trusted) es)

abbrev pub renewed_entries : List Entry → List Entry
renewed_entries es = renewed_of (class_of es) es

abbrev pub if_renewed : Option (List Entry) → Option (List Entry)
if_renewed None = None
if_renewed (Some es) = if_object (Some (renewed_entries es))

-- the object with an old stored form
unfoldable pub object_old_stored : List ℕ → Option (List Entry)
object_old_stored [] = None
object_old_stored (b ∷ bytes) = if b == 1 then if_renewed (whole stored_entries bytes) else None
