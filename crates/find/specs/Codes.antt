-- Codes of short values, by which a search decides without reading an object (PKCS #11 v3.1, 5.7.7).
use Rattle.std.specs.Prelude.{ℕ, Bool, ◌&&◌, ◌==◌, ◌+◌, not, List, [], ◌∷◌, length, map, Option, Some, None, if◌then◌else◌}
use Rattle.std.specs.List.{list_all, list_any}
use Rattle.std.specs.Str.{bytes_eq}
use Rattle.ck_types.specs.declared.entry.Entry.{Entry}
use Rattle.ck_types.specs.declared.attr_type.AttrType.{AttrType}
use Rattle.ck_types.specs.declared.attr_type.AttrType.TheVariants as attr
use Rattle.ck_types.specs.Numbers.{attr_type_number}
use Rattle.attrs.specs.Objects.{attribute_of}

-- the attributes that have codes: the class, the key type, and those that are truth values
abbrev pub coded : List AttrType
coded =
    attr.Class ∷ attr.KeyType ∷ attr.Token ∷ attr.Private ∷ attr.Trusted ∷ attr.Sensitive ∷ attr.Encrypt ∷ attr.Decrypt ∷ attr.Wrap
    ∷ attr.Unwrap ∷ attr.Sign ∷ attr.Verify ∷ attr.Extractable ∷ attr.Local ∷ attr.NeverExtractable ∷ attr.AlwaysSensitive
    ∷ attr.Modifiable ∷ attr.Copyable ∷ attr.Destroyable ∷ attr.WrapWithTrusted ∷ []

abbrev pub number_bytes : ℕ → List ℕ
number_bytes n = 0 ∷ 0 ∷ 0 ∷ 0 ∷ 0 ∷ 0 ∷ 0 ∷ n ∷ []

-- the values that have codes: false, true, CKO_DATA, CKO_SECRET_KEY, CKK_GENERIC_SECRET, CKK_AES
abbrev pub known : List (List ℕ)
known =
    (0 ∷ []) ∷ (1 ∷ []) ∷ number_bytes 0x0 ∷ number_bytes 0x4 ∷ number_bytes 0x10 ∷ number_bytes 0x1f ∷ []

-- the code of a value: how many of the known ones there are from it on, and 0 where it is none of them
abbrev pub code_among : List (List ℕ) → List ℕ → ℕ
code_among [] bytes = 0
code_among (value ∷ values) bytes = if bytes_eq bytes value then 1 + length values else code_among values bytes

abbrev pub code_of : List ℕ → ℕ
code_of bytes = code_among known bytes

-- the code of an attribute's value, or 7 where the object doesn't have the attribute
abbrev pub code_in : Option (List ℕ) → ℕ
code_in None = 7
code_in (Some bytes) = code_of bytes

-- an object's codes, in the order of the attributes
abbrev pub codes_of : List Entry → List ℕ
codes_of object = map (λ t. code_in (attribute_of object t)) coded

-- the code of the attribute with a number, or 0 where it has none
abbrev pub code_for : List AttrType → List ℕ → ℕ → ℕ
code_for [] codes n = 0
code_for (t ∷ ts) [] n = 0
code_for (t ∷ ts) (code ∷ codes) n = if attr_type_number t == n then code else code_for ts codes n

abbrev pub is_coded : ℕ → Bool
is_coded n = list_any (λ t. attr_type_number t == n) coded

-- the codes decide whether an object has the value that is wanted
abbrev pub is_decided : Entry → Bool
is_decided e = is_coded e.attr_type && not (code_of e.value == 0)

-- they decide of each value that a template wants
abbrev pub are_decided : List Entry → Bool
are_decided template = list_all is_decided template

-- by its codes, an object has each value that is wanted
abbrev pub codes_match : List ℕ → List Entry → Bool
codes_match codes template = list_all (λ e. code_for coded codes e.attr_type == code_of e.value) template
