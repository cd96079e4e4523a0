-- Which objects a search template finds (PKCS #11 v3.1, 5.7.7).
use Rattle.std.specs.Prelude.{ℕ, Bool, false, ◌&&◌, List, [], ◌∷◌, ◌++◌, Option, Some, None, if◌then◌else◌}
use Rattle.std.specs.List.{list_all}
use Rattle.std.specs.Str.{bytes_eq}
use Rattle.ck_types.specs.declared.entry.Entry.{Entry}
use Rattle.attrs.specs.Objects.{attribute}
use Rattle.attrs.specs.Masking.{reveals}

abbrev pub has_value : Option (List ℕ) → List ℕ → Bool
has_value None wanted = false
has_value (Some value) wanted = bytes_eq value wanted

-- the object has the attribute, may reveal it, and the bytes are equal
abbrev pub entry_matches : List Entry → Entry → Bool
entry_matches object e = reveals object e.attr_type && has_value (attribute object e.attr_type) e.value

abbrev pub template_matches : List Entry → List Entry → Bool
template_matches template object = list_all (entry_matches object) template

-- what a search has found, with one more object: notes stand for objects, in the order in which they come
abbrev pub searched : {T : Type 0} → List Entry → List Entry → T → List T → List T
searched template object note found = if template_matches template object then found ++ note ∷ [] else found
