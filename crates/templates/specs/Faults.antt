-- Why a template makes no object (PKCS #11 v3.1, 4.1). Each condition is checked over the whole template
-- before the next one. The original is the object that is copied or changed, and empty in a call that
-- makes a new object.
use Rattle.std.specs.Prelude.{ℕ, Bool, true, false, ◌&&◌, ◌||◌, ◌==◌, not, List, [], ◌∷◌, length, Option, Some, None, is_none, if◌then◌else◌}
use Rattle.std.specs.List.{list_any}
use Rattle.std.specs.Str.{bytes_eq}
use Rattle.ck_types.specs.declared.entry.Entry.{Entry}
use Rattle.ck_types.specs.declared.attr_type.AttrType.TheVariants as attr
use Rattle.ck_types.specs.declared.object_class.ObjectClass.{ObjectClass}
use Rattle.ck_types.specs.declared.key_type.KeyType.{KeyType}
use Rattle.ck_types.specs.declared.session_state.SessionState.{SessionState}
use Rattle.ck_types.specs.declared.session_state.SessionState.TheVariants as state
use Rattle.ck_types.specs.declared.rv.Rv.{Rv}
use Rattle.ck_types.specs.declared.rv.Rv.TheVariants as rv
use Rattle.ck_types.specs.Numbers.{attr_type_number, key_type_number, object_class_number}
use Rattle.ck_types.specs.declared.object_class.ObjectClass.TheVariants.{SecretKey}
use Rattle.attrs.specs.declared.table.AttributeRow.{AttributeRow}
use Rattle.attrs.specs.declared.table.Form.{Form}
use Rattle.attrs.specs.declared.table.Rule.{Rule}
use Rattle.attrs.specs.declared.table.Rule.TheVariants.{Unused, Required, Optional, Inconsistent, ReadOnly, FalseOnly, TrueOnly, TrueBySo}
use Rattle.attrs.specs.Table.{attribute_table, row_number, is_held_by}
use Rattle.attrs.specs.Objects.{attribute, attribute_of, is_true, number_of, class_at, class_of, key_type_at, key_type_of, is_key_len, has_form}
use Rattle.templates.specs.declared.making.Making.{Making}
use Rattle.templates.specs.declared.making.Making.TheVariants as making
use Rattle.ck_mechanisms.specs.Table.{mech_key_type as key_type_for}
use Rattle.templates.specs.Making.{rule}

-- whether the objects of a class have the attribute, or where no class is known some objects
abbrev pub is_held : Option ObjectClass → AttributeRow → Bool
is_held None r = true
is_held (Some class) r = is_held_by class r

-- the row speaks of an attribute type
abbrev pub is_about : Option ObjectClass → ℕ → AttributeRow → Bool
is_about class n r = (row_number r == n) && is_held class r

-- 1. The type is no attribute, or none that objects of the class have.
abbrev pub is_unknown : Option ObjectClass → Entry → Bool
is_unknown class e = not (list_any (is_about class e.attr_type) attribute_table)

-- 2. The value has not the form of its type, or it is an unknown class or key type.
abbrev pub form_in : List AttributeRow → ℕ → Option Form
form_in [] n = None
form_in (r ∷ rs) n = if row_number r == n then Some r.form else form_in rs n

abbrev pub fits_form_of : Option Form → List ℕ → Bool
fits_form_of None value = true
fits_form_of (Some form) value = has_form form value

abbrev pub is_unlisted : Entry → Bool
is_unlisted e =
    ((e.attr_type == attr_type_number attr.Class) && is_none (class_at (number_of (Some e.value))))
    || ((e.attr_type == attr_type_number attr.KeyType) && is_none (key_type_at (number_of (Some e.value))))

abbrev pub is_ill_formed : Entry → Bool
is_ill_formed e = not (fits_form_of (form_in attribute_table e.attr_type) e.value) || is_unlisted e

-- 3. Two entries of one type have unequal values.
abbrev pub contradicts : Entry → Entry → Bool
contradicts e f = (e.attr_type == f.attr_type) && not (bytes_eq e.value f.value)

-- 4. The rule of the attribute doesn't allow the value, given the present one.
abbrev pub is_value_set : List ℕ → Bool
is_value_set value = is_true (Some value)

abbrev pub is_present : Option (List ℕ) → List ℕ → Bool
is_present None value = false
is_present (Some present) value = bytes_eq present value

abbrev pub is_so_state : SessionState → Bool
is_so_state state.RoPublic = false
is_so_state state.RoUser = false
is_so_state state.RwPublic = false
is_so_state state.RwUser = false
is_so_state state.RwSo = true

abbrev pub refuses : Rule → SessionState → Option (List ℕ) → List ℕ → Bool
refuses Unused s present value = false
refuses Required s present value = false
refuses Optional s present value = false
refuses Inconsistent s present value = false
refuses ReadOnly s present value = true
refuses FalseOnly s present value = is_value_set value && not (is_present present value)
refuses TrueOnly s present value = not (is_value_set value) && not (is_present present value)
refuses TrueBySo s present value = is_value_set value && (not (is_so_state s) && not (is_present present value))

abbrev pub is_read_only : Making → SessionState → List Entry → Entry → Bool
is_read_only c s original e =
    list_any (λ r. is_about (class_of original) e.attr_type r && refuses (rule c r) s
    (attribute original e.attr_type) e.value) attribute_table

-- 5. The attribute doesn't go with the call, or with what else is asked for.
abbrev pub is_inconsistent : Rule → Bool
is_inconsistent Unused = false
is_inconsistent Required = false
is_inconsistent Optional = false
is_inconsistent Inconsistent = true
is_inconsistent ReadOnly = false
is_inconsistent FalseOnly = false
is_inconsistent TrueOnly = false
is_inconsistent TrueBySo = false

abbrev pub is_excluded : Making → List Entry → Entry → Bool
is_excluded c original e = list_any (λ r. is_about (class_of original) e.attr_type r && is_inconsistent (rule c r)) attribute_table

-- a number is given, and it is another one
abbrev pub is_other : Option ℕ → ℕ → Bool
is_other None n = false
is_other (Some m) n = not (m == n)

abbrev pub is_of_other_class : List Entry → Bool
is_of_other_class template = is_other (number_of (attribute_of template attr.Class)) (object_class_number SecretKey)

abbrev pub disagrees : Making → List Entry → Bool
disagrees making.Create template = list_any (is_unknown (class_of template)) template
disagrees (making.Generate mechanism) template =
    is_of_other_class template || is_other (number_of (attribute_of template attr.KeyType)) (key_type_number (key_type_for mechanism))
disagrees (making.Unwrap len) template =
    is_of_other_class template || is_other (number_of (attribute_of template attr.ValueLen)) len
disagrees making.Copy template = false
disagrees making.Set template = false

-- 6. A required attribute is missing.
abbrev pub is_required : Rule → Bool
is_required Unused = false
is_required Required = true
is_required Optional = false
is_required Inconsistent = false
is_required ReadOnly = false
is_required FalseOnly = false
is_required TrueOnly = false
is_required TrueBySo = false

abbrev pub is_missing : Making → List Entry → AttributeRow → Bool
is_missing c template r = is_required (rule c r) && (is_held (class_of template) r && is_none (attribute template (row_number r)))

-- 7. The key type doesn't have the length.
abbrev pub is_bad_len : Option KeyType → Option ℕ → Bool
is_bad_len None len = false
is_bad_len (Some type) None = false
is_bad_len (Some type) (Some len) = not (is_key_len type len)

abbrev pub len_of : Option (List ℕ) → Option ℕ
len_of None = None
len_of (Some value) = Some (length value)

abbrev pub has_bad_len : Making → List Entry → Bool
has_bad_len making.Create template = is_bad_len (key_type_of template) (len_of (attribute_of template attr.Value))
has_bad_len (making.Generate mechanism) template =
    is_bad_len (Some (key_type_for mechanism)) (number_of (attribute_of template attr.ValueLen))
has_bad_len (making.Unwrap len) template = false
has_bad_len making.Copy template = false
has_bad_len making.Set template = false

abbrev pub has_bad_unwrapped_len : Making → List Entry → Bool
has_bad_unwrapped_len making.Create template = false
has_bad_unwrapped_len (making.Generate mechanism) template = false
has_bad_unwrapped_len (making.Unwrap len) template = is_bad_len (key_type_of template) (Some len)
has_bad_unwrapped_len making.Copy template = false
has_bad_unwrapped_len making.Set template = false

-- the code of the first condition that holds
unfoldable pub template_fault : Making → SessionState → List Entry → List Entry → Option Rv
template_fault c s original template =
    if list_any (is_unknown (class_of original)) template then Some rv.AttributeTypeInvalid else (
    if list_any is_ill_formed template then Some rv.AttributeValueInvalid else (
    if list_any (λ e. list_any (contradicts e) template) template then Some rv.TemplateInconsistent else (
    if list_any (is_read_only c s original) template then Some rv.AttributeReadOnly else (
    if list_any (is_excluded c original) template || disagrees c template then Some rv.TemplateInconsistent else (
    if list_any (is_missing c template) attribute_table then Some rv.TemplateIncomplete else (
    if has_bad_len c template then Some rv.AttributeValueInvalid else (
    if has_bad_unwrapped_len c template then Some rv.WrappedKeyLenRange else (
    None))))))))
