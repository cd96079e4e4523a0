-- Marks of objects. By an object's mark a search passes over it without reading it, where the template can't match it
-- (PKCS #11 v3.1, 5.7.7).
use Rattle.std.specs.Prelude.{ℕ, ◌*◌, ◌%◌, ◌^◌, Bool, false, ◌||◌, ◌==◌, not, List, Option, Some, None, bit_xor}
use Rattle.std.specs.Bool.{beq}
use Rattle.std.specs.List.{fold}
use Rattle.std.specs.Option.{option_map}
use Rattle.ck_types.specs.declared.entry.Entry.{Entry}
use Rattle.ck_types.specs.declared.attr_type.AttrType.TheVariants as attr
use Rattle.find.specs.declared.marks.TheConstants.{HASH_FACTOR, HASH_START}
use Rattle.attrs.specs.Objects.{attribute_of, flag, is_true}
use Rattle.find.specs.Codes.{are_decided, codes_of}

-- what a mark has of an object: whether it is private, a hash of 16 bits of each of five attributes, and codes
pub record ObjectMark : Type 0 where
  pub private : Bool
  pub class : ℕ
  pub key_type : ℕ
  pub label : ℕ
  pub id : ℕ
  pub application : ℕ
  pub codes : List ℕ

-- a byte more: it is joined by exclusive or, and the product has 16 bits
abbrev pub hash_step : ℕ → ℕ → ℕ
hash_step hash byte = (bit_xor hash byte * HASH_FACTOR) % 2 ^ 16

-- the hash of a value, which is no secret
unfoldable pub hash_of : List ℕ → ℕ
hash_of bytes = fold hash_step HASH_START bytes

-- the hash of an attribute's value, or 0 where the object doesn't have the attribute
abbrev pub hash_in : Option (List ℕ) → ℕ
hash_in None = 0
hash_in (Some bytes) = hash_of bytes

abbrev pub mark_of : List Entry → ObjectMark
mark_of object = record {
  private = flag object attr.Private;
  class = hash_in (attribute_of object attr.Class);
  key_type = hash_in (attribute_of object attr.KeyType);
  label = hash_in (attribute_of object attr.Label);
  id = hash_in (attribute_of object attr.Id);
  application = hash_in (attribute_of object attr.Application);
  codes = codes_of object;
}

-- What a template wants of marks, and whether their codes decide all of it: of each attribute that marks have, what its first entry of that type makes of a mark. A template
-- that has no such entry wants nothing there.
pub record WantedMarks : Type 0 where
  pub private : Option Bool
  pub class : Option ℕ
  pub key_type : Option ℕ
  pub label : Option ℕ
  pub id : Option ℕ
  pub application : Option ℕ
  pub is_decided : Bool

-- a value as a truth value
abbrev pub truth_of : List ℕ → Bool
truth_of bytes = is_true (Some bytes)

abbrev pub wanted_of : List Entry → WantedMarks
wanted_of template = record {
  private = option_map truth_of (attribute_of template attr.Private);
  class = option_map hash_of (attribute_of template attr.Class);
  key_type = option_map hash_of (attribute_of template attr.KeyType);
  label = option_map hash_of (attribute_of template attr.Label);
  id = option_map hash_of (attribute_of template attr.Id);
  application = option_map hash_of (attribute_of template attr.Application);
  is_decided = are_decided template;
}

-- a hash is wanted, and it isn't this one
abbrev pub is_other_hash : Option ℕ → ℕ → Bool
is_other_hash None hash = false
is_other_hash (Some wanted) hash = not (wanted == hash)

-- a truth value is wanted, and it isn't this one
abbrev pub is_other_truth : Option Bool → Bool → Bool
is_other_truth None truth = false
is_other_truth (Some wanted) truth = not (beq wanted truth)

-- what is wanted excludes the objects that have this mark
abbrev pub excludes : WantedMarks → ObjectMark → Bool
excludes wanted mark =
    is_other_truth wanted.private mark.private
    || is_other_hash wanted.class mark.class
    || is_other_hash wanted.key_type mark.key_type
    || is_other_hash wanted.label mark.label
    || is_other_hash wanted.id mark.id
    || is_other_hash wanted.application mark.application
