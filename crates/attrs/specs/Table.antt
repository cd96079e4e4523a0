-- The attributes of data objects and secret keys (PKCS #11 v3.1, 4.2, 4.4, 4.5, 4.7 and 4.10). For each, what
-- a template may say of it (4.1). A column is one of the calls: C_CreateObject,
-- C_GenerateKey, C_UnwrapKey, C_CopyObject, C_SetAttributeValue. Defaults, and which attributes may be
-- given where the standard leaves it open, are this token's profile.
use Rattle.std.specs.Prelude.{ℕ, Bool, true, false, List, [], ◌∷◌, filter}
use Rattle.ck_types.specs.declared.attr_type.AttrType.{AttrType}
use Rattle.ck_types.specs.declared.attr_type.AttrType.TheVariants as attr
use Rattle.ck_types.specs.declared.object_class.ObjectClass.{ObjectClass}
use Rattle.ck_types.specs.declared.object_class.ObjectClass.TheVariants.{Data, SecretKey}
use Rattle.ck_types.specs.Numbers.{attr_type_number}
use Rattle.attrs.specs.declared.table.AttributeRow.{AttributeRow}
use Rattle.attrs.specs.declared.table.Form.{Form}
use Rattle.attrs.specs.declared.table.Form.TheVariants.{Truth, Number, Bytes}
use Rattle.attrs.specs.declared.table.Holder.{Holder}
use Rattle.attrs.specs.declared.table.Holder.TheVariants.{Both, DataObject, Key}
use Rattle.attrs.specs.declared.table.Rule.{Rule}
use Rattle.attrs.specs.declared.table.Rule.TheVariants.{Unused, Required, Optional, Inconsistent, ReadOnly, FalseOnly, TrueOnly, TrueBySo}
use Rattle.attrs.specs.declared.table.DefaultValue.{DefaultValue}
use Rattle.attrs.specs.declared.table.DefaultValue.TheVariants.{ByToken, False, True, TrueForKey, TrueUnwrapped, Empty}

abbrev pub row : AttrType → Holder → Form → Rule → Rule → Rule → Rule → Rule → DefaultValue → AttributeRow
row a h f c g u p s d = record { attribute = a; holder = h; form = f; create = c; generate = g; unwrap = u; copy = p; set = s; default = d }

unfoldable pub attribute_table : List AttributeRow
attribute_table =
    row attr.Class Both Number Required Optional Optional ReadOnly ReadOnly ByToken ∷
    row attr.Token Both Truth Optional Optional Optional Optional ReadOnly False ∷
    row attr.Private Both Truth Optional Optional Optional Optional ReadOnly TrueForKey ∷
    row attr.Label Both Bytes Optional Optional Optional Optional Optional Empty ∷
    row attr.UniqueId Both Bytes ReadOnly ReadOnly ReadOnly ReadOnly ReadOnly ByToken ∷
    row attr.Application DataObject Bytes Optional Inconsistent Inconsistent Optional Optional Empty ∷
    row attr.Value DataObject Bytes Optional Unused Unused Optional Optional Empty ∷
    row attr.Value Key Bytes Required Inconsistent Inconsistent ReadOnly ReadOnly ByToken ∷
    row attr.Trusted Key Truth TrueBySo TrueBySo TrueBySo TrueBySo TrueBySo False ∷
    row attr.KeyType Key Number Required Optional Required ReadOnly ReadOnly ByToken ∷
    row attr.Id Key Bytes Optional Optional Optional Optional Optional Empty ∷
    row attr.Sensitive Key Truth Optional Optional Optional TrueOnly TrueOnly True ∷
    row attr.Encrypt Key Truth Optional Optional Optional Optional Optional True ∷
    row attr.Decrypt Key Truth Optional Optional Optional Optional Optional True ∷
    row attr.Wrap Key Truth Optional Optional Optional Optional Optional False ∷
    row attr.Unwrap Key Truth Optional Optional Optional Optional Optional False ∷
    row attr.Sign Key Truth Optional Optional Optional Optional Optional True ∷
    row attr.Verify Key Truth Optional Optional Optional Optional Optional True ∷
    row attr.ValueLen Key Number Inconsistent Required Optional ReadOnly ReadOnly ByToken ∷
    row attr.Extractable Key Truth Optional Optional Optional FalseOnly FalseOnly TrueUnwrapped ∷
    row attr.Local Key Truth ReadOnly ReadOnly ReadOnly ReadOnly ReadOnly ByToken ∷
    row attr.NeverExtractable Key Truth ReadOnly ReadOnly ReadOnly ReadOnly ReadOnly ByToken ∷
    row attr.AlwaysSensitive Key Truth ReadOnly ReadOnly ReadOnly ReadOnly ReadOnly ByToken ∷
    row attr.KeyGenMechanism Key Number ReadOnly ReadOnly ReadOnly ReadOnly ReadOnly ByToken ∷
    row attr.Modifiable Both Truth Optional Optional Optional Optional ReadOnly True ∷
    row attr.Copyable Both Truth Optional Optional Optional FalseOnly FalseOnly True ∷
    row attr.Destroyable Both Truth Optional Optional Optional Optional ReadOnly True ∷
    row attr.WrapWithTrusted Key Truth Optional Optional Optional TrueOnly TrueOnly False ∷
    []

abbrev pub row_number : AttributeRow → ℕ
row_number r = attr_type_number r.attribute

-- whether the objects of a class have the attribute of a row
abbrev pub holds : ObjectClass → Holder → Bool
holds class Both = true
holds Data DataObject = true
holds SecretKey DataObject = false
holds Data Key = false
holds SecretKey Key = true

abbrev pub is_held_by : ObjectClass → AttributeRow → Bool
is_held_by class r = holds class r.holder

-- the attributes of a class, by rising number
abbrev pub rows_of : ObjectClass → List AttributeRow
rows_of class = filter (is_held_by class) attribute_table
