-- C_WrapKey, where no check fails.
use Rattle.std.proofs.Common.{◌≡◌, ◌+◌, ℕ, true, false, List, length, Option, Some, refl}
use Rattle.std.specs.Prelude.{is_none, ◌==◌, ◌&&◌, not}
use Rattle.ck_types.specs.declared.attr_type.AttrType.TheVariants as attr
use Rattle.ck_types.specs.declared.entry.Entry.{Entry}
use Rattle.ck_types.specs.declared.mech_type.MechType.{MechType}
use Rattle.ck_calls.specs.declared.fields.Mechanism.{Mechanism}
use Rattle.ck_calls.specs.declared.function.Function.TheVariants as functions
use Rattle.attrs.specs.Masking.{is_secret_key}
use Rattle.attrs.specs.Objects.{attribute_of, class_of, flag, key_type_of}
use Rattle.mech.specs.Wrappings.{is_value_length}
use Rattle.model_views.specs.Views.{View, WrapsKey}
use Rattle.model_views.specs.Answering.{session_of}
use Rattle.model_views.specs.Checked.{is_aes}
use Rattle.model_answers.specs.GetObjectSize.{value_len}
use Rattle.model_answers.specs.WrapKey.{wrapping_at, wraps}
use Rattle.serve_base.specs.Asking.{asks_within}

-- what is returned of both keys
pub record MayWrap (w k : List Entry) : Type 0 where
  pub wrapping : is_secret_key (class_of w) ≡ true
  pub key : is_secret_key (class_of k) ≡ true
  pub aes : is_aes (key_type_of w) ≡ true
  pub permitted : flag w attr.Wrap ≡ true
  pub extractable : flag k attr.Extractable ≡ true
  pub trusted : (flag k attr.WrapWithTrusted && not (flag w attr.Trusted)) ≡ false

pub wraps-asks : (v : View) (s : ℕ) (m : Mechanism) (buffer_len : Option ℕ) → is_none (session_of v s) ≡ false → (kind : MechType)
    → wrapping_at m.mech_type ≡ Some kind → (length m.parameter == 0) ≡ true → (w k : List Entry) → MayWrap w k
    → (key value : List ℕ) → attribute_of w attr.Value ≡ Some key → attribute_of k attr.Value ≡ Some value
    → value_len k ≡ length value → is_value_length (length value) ≡ true
    → wraps v s m (Some w) (Some k) buffer_len
    ≡ asks_within functions.WrapKey s (WrapsKey (Some key) (Some value)) (length value + 8) buffer_len v
wraps-asks v s m buffer_len there kind is empty w k may key value under of len size =
    rw (
      there,
      is,
      empty,
      may.wrapping,
      may.key,
      may.aes,
      may.permitted,
      may.extractable,
      may.trusted,
      rw may.key at len,
      size,
      under,
      of,
    ) refl
