-- C_EncryptInit, C_DecryptInit, C_SignInit and C_VerifyInit.
use Rattle.std.proofs.Common.{◌≡◌, ℕ, true, not, List, [], Option, Some, None, refl, ◌∙◌, ap, arith}
use Rattle.std.specs.Prelude.{is_some}
use Rattle.std.specs.Option.{unwrap_or, option_map}
use Rattle.ck_types.specs.declared.attr_type.AttrType.TheVariants as attr
use Rattle.ck_types.specs.declared.mech_type.MechType.{MechType}
use Rattle.ck_types.specs.declared.mech_type.MechType.TheVariants.{AesEcb}
use Rattle.ck_types.specs.declared.rv.Rv.TheVariants.{Ok}
use Rattle.ck_calls.specs.declared.fields.Mechanism.{Mechanism}
use Rattle.ck_calls.specs.declared.reply.Reply.TheVariants.{Code}
use Rattle.ck_mechanisms.specs.Table.{mech_key_type as key_type_for}
use Rattle.aes_modes.specs.declared.direction.Direction.TheVariants.{Encrypt, Decrypt}
use Rattle.streams.specs.declared.mechanism.Mechanism.TheVariants.{Ecb}
use Rattle.macs.specs.declared.mechanism.Mechanism.TheVariants.{AesCmac}
use Rattle.attrs.specs.Objects.{attribute_of, class_of, key_type_at, key_type_of, number_of}
use Rattle.attrs.specs.Masking.{is_secret_key}
use Rattle.attrs.specs.MaskingLaws.{attribute-mask, class_of-mask}
use Rattle.precede.specs.declared.condition.Condition.TheVariants.{NoSession, NoMechanism, OperationActive, NoKey, WrongKeyType, KeyNotPermitted}
use Rattle.ops.specs.declared.place.Kind.{Kind}
use Rattle.ops.specs.declared.place.Kind.TheVariants.{Cipher, Mac}
use Rattle.ops.specs.declared.place.MacPlace.TheVariants.{Sign, Verify}
use Rattle.ops.specs.Operations.{Operation, MacOperation, mask_operation, mask_mac, mac_in, mac_started, operation_in, started}
use Rattle.model_views.specs.Answering.{with_mac, with_operation}
use Rattle.model_views.specs.Checked.{flag_at, is_of_type}
use Rattle.model_answers.specs.CipherInit.{place_for, with_parameter}
use Rattle.model_answers.specs.MacInit.{mac_mechanism_with}
use Rattle.model_answers.specs.OperationInit.{permission, init_function, is_in_progress, operation_ends, operation_begins, type_in, parameter_in, init_row, init_says, begins_under, operation_init}
use Rattle.model_answers.proofs.Proper.CipherInit.{with_operation-mask, operation-mask, blind-ends}
use Rattle.model_answers.proofs.Proper.MacInit.{with_mac-mask, mac-mask, blind-mac_ends}
use Rattle.model_views.proofs.Checks.{Entry, mask_object, Condition, View, mask, shown, session_of, object_at, object-mask, IsProper, IsFair, blind-becomes, fair, blind-row, fair-row, blind-checked_by, fair-checked_by, row-session, none-masked, flag-masked}

is_some-masked : (o : Option Operation) → is_some (option_map mask_operation o) ≡ is_some o
is_some-masked None = refl
is_some-masked (Some o) = refl

some-masked : (o : Option MacOperation) → is_some (option_map mask_mac o) ≡ is_some o
some-masked None = refl
some-masked (Some o) = refl

pub class-masked : (o : Option (List Entry))
    → is_secret_key (class_of (unwrap_or (option_map mask_object o) [])) ≡ is_secret_key (class_of (unwrap_or o []))
class-masked None = refl
class-masked (Some o) = ap is_secret_key (class_of-mask o)

pub type-masked : (o : Option (List Entry))
    → key_type_of (unwrap_or (option_map mask_object o) []) ≡ key_type_of (unwrap_or o [])
type-masked None = refl
type-masked (Some o) = ap (λ a. key_type_at (number_of a)) (attribute-mask o _ (λ e. absurd (omega (arith, e))))

module _ (v : View) (s : ℕ) where
  progress-mask : (kind : Kind) → is_in_progress kind (session_of (mask v) s) ≡ is_in_progress kind (session_of v s)
  progress-mask (Cipher d) = ap is_some (operation-mask v s (place_for d)) ∙ is_some-masked (operation_in (session_of v s) (place_for d))
  progress-mask (Mac p) = ap is_some (mac-mask v s p) ∙ some-masked (mac_in (session_of v s) p)

  blind-end : (kind : Kind) (row : Condition) → shown (operation_ends kind (mask v) s row) ≡ shown (operation_ends kind v s row)
  blind-end (Cipher d) row = blind-ends v s (place_for d) row
  blind-end (Mac p) row = blind-mac_ends v s p row

  fair-end : (kind : Kind) → IsFair true v (operation_ends kind v s NoMechanism)
  fair-end (Cipher d) = fair v {a = operation_ends (Cipher d) v s NoMechanism} refl refl refl refl refl
  fair-end (Mac p) = fair v {a = operation_ends (Mac p) v s NoMechanism} refl refl refl refl refl

  blind-begins : (kind : Kind) (mechanism : MechType) (parameter : List ℕ) (x y : List Entry)
      → shown (operation_begins kind (mask v) s mechanism parameter x) ≡ shown (operation_begins kind v s mechanism parameter y)
  blind-begins (Cipher d) mechanism parameter x y =
      let cipher = unwrap_or (with_parameter mechanism parameter) Ecb in
      let p : Option Operation = Some (started cipher d (attribute_of x attr.Value)) in
      let q : Option Operation = Some (started cipher d (attribute_of y attr.Value)) in
      blind-becomes (Code Ok) (with_operation (mask v) s (place_for d) p) (with_operation v s (place_for d) q)
      (with_operation-mask v s (place_for d) p q refl)
  blind-begins (Mac place) mechanism parameter x y =
      let mac = unwrap_or (mac_mechanism_with mechanism parameter) AesCmac in
      let p : Option MacOperation = Some (mac_started mac (attribute_of x attr.Value)) in
      let q : Option MacOperation = Some (mac_started mac (attribute_of y attr.Value)) in
      blind-becomes (Code Ok) (with_mac (mask v) s place p) (with_mac v s place q) (with_mac-mask v s place p q refl)

  fair-begins : (kind : Kind) (mechanism : MechType) (parameter : List ℕ) (key : List Entry)
      → IsFair true v (operation_begins kind v s mechanism parameter key)
  fair-begins (Cipher d) mechanism parameter key =
      fair v {a = operation_begins (Cipher d) v s mechanism parameter key} refl refl refl refl refl
  fair-begins (Mac p) mechanism parameter key =
      fair v {a = operation_begins (Mac p) v s mechanism parameter key} refl refl refl refl refl

module _ (kind : Kind) (v : View) (s : ℕ) where
  row-mask : (m : Option Mechanism) (o : Option (List Entry)) (row : Condition)
      → init_row kind (mask v) s m (option_map mask_object o) row ≡ init_row kind v s m o row
  row-mask m o NoSession = row-session v s
  row-mask m o OperationActive = progress-mask v s kind
  row-mask m o NoKey = rw (none-masked o, class-masked o) refl
  row-mask m o WrongKeyType = ap (λ t. not (is_of_type (key_type_for (unwrap_or (type_in kind m) AesEcb)) t)) (type-masked o)
  row-mask m o KeyNotPermitted = ap not (permitted kind) where
    permitted : (kind : Kind) → flag_at (option_map mask_object o) (permission kind) ≡ flag_at o (permission kind)
    permitted (Cipher Encrypt) = flag-masked o attr.Encrypt (λ e. absurd (omega (arith, e)))
    permitted (Cipher Decrypt) = flag-masked o attr.Decrypt (λ e. absurd (omega (arith, e)))
    permitted (Mac Sign) = flag-masked o attr.Sign (λ e. absurd (omega (arith, e)))
    permitted (Mac Verify) = flag-masked o attr.Verify (λ e. absurd (omega (arith, e)))
  row-mask m o _ = refl

  blind-says : (row : Condition) → shown (init_says kind (mask v) s row) ≡ shown (init_says kind v s row)
  blind-says NoMechanism = blind-end v s kind NoMechanism
  blind-says row = blind-row v row

  blind-under : (m : Option Mechanism) (o : Option (List Entry))
      → shown (begins_under kind (mask v) s m (option_map mask_object o)) ≡ shown (begins_under kind v s m o)
  blind-under m o =
      let mechanism = unwrap_or (type_in kind m) AesEcb in
      let x = unwrap_or (option_map mask_object o) [] in
      let y = unwrap_or o [] in
      blind-checked_by (init_function kind) (init_row kind (mask v) s m (option_map mask_object o)) (init_row kind v s m o)
      (init_says kind (mask v) s) (init_says kind v s) (operation_begins kind (mask v) s mechanism (parameter_in m) x)
      (operation_begins kind v s mechanism (parameter_in m) y)
      (row-mask m o) blind-says (blind-begins v s kind mechanism (parameter_in m) x y)

  fair-says : (row : Condition) → IsFair true v (init_says kind v s row)
  fair-says NoMechanism = fair-end v s kind
  fair-says row = fair-row v row

pub proper-operation_init : (kind : Kind) (s : ℕ) (mechanism : Option Mechanism) (key : ℕ)
    → IsProper (λ v r. operation_init kind v s mechanism key) true
proper-operation_init kind s m key = record {
  blind = λ v r. ap (λ o. shown (begins_under kind (mask v) s m o)) (object-mask v key) ∙ blind-under kind v s m (object_at v key);
  fair = λ v r.
      let mechanism = unwrap_or (type_in kind m) AesEcb in
      let o = unwrap_or (object_at v key) [] in
      fair-checked_by (init_function kind) v (init_row kind v s m (object_at v key)) (init_says kind v s)
      (operation_begins kind v s mechanism (parameter_in m) o) (fair-says kind v s)
      (fair-begins v s kind mechanism (parameter_in m) o);
}
